use Rattle.std.proofs.Common.{◌≡◌, ◌∙◌, rules, string_bytes}
use Rattle.host_files.specs.Naming.{Tried}
use Rattle.host_files.proofs.lemmas.Naming.{clears_own, not_free_after, not_free_now, on_err, on_failed}
use Rattle.desk_host.proofs.room.make_room.Goals as goal

pub returns-in_err-check_free-2-clause-taken : goal.returns-in_err-check_free-2-clause-taken
returns-in_err-check_free-2-clause-taken g c to are =
    on_err _ (not_free_after to _ _ _ _ c.in_ok-check_free.ensures tt
    (not_free_now to _ _ c.in_err-check_free-2.ensures))

pub returns-in_err-clear_part-clause-taken : goal.returns-in_err-clear_part-clause-taken
returns-in_err-clear_part-clause-taken g c to are =
    on_err _ (not_free_after to _ _ _ _ c.in_ok-check_free.ensures tt
    (not_free_after to _ _ _ _ c.in_ok-check_free-2.ensures tt
    (not_free_now to _ _ c.in_err-clear_part.ensures)))

pub returns-in_err-check_free-3-clause-taken : goal.returns-in_err-check_free-3-clause-taken
returns-in_err-check_free-3-clause-taken g c to are =
    let names = c.args.names.now in
    let r : c.deref-3.result.now ≡ string_bytes names.part = search rules in
    let s : c.deref-4.result.now ≡ string_bytes names.part_log = search rules in
    let own = clears_own to _ _ (r ∙ are.part_is) (s ∙ are.part_log_is) in
    on_err _ (not_free_after to _ _ _ _ c.in_ok-check_free.ensures tt
    (not_free_after to _ _ _ _ c.in_ok-check_free-2.ensures tt
    (not_free_after to _ _ _ _ c.in_ok-clear_part.ensures own
    (not_free_now to _ _ c.in_err-check_free-3.ensures))))

pub returns-in_err-check_free-4-clause-taken : goal.returns-in_err-check_free-4-clause-taken
returns-in_err-check_free-4-clause-taken g c to are =
    let names = c.args.names.now in
    let r : c.deref-3.result.now ≡ string_bytes names.part = search rules in
    let s : c.deref-4.result.now ≡ string_bytes names.part_log = search rules in
    let own = clears_own to _ _ (r ∙ are.part_is) (s ∙ are.part_log_is) in
    on_err _ (not_free_after to _ _ _ _ c.in_ok-check_free.ensures tt
    (not_free_after to _ _ _ _ c.in_ok-check_free-2.ensures tt
    (not_free_after to _ _ _ _ c.in_ok-clear_part.ensures own
    (not_free_after to _ _ _ _ c.in_ok-check_free-3.ensures tt
    (not_free_now to _ _ c.in_err-check_free-4.ensures)))))

pub returns-clause-taken : goal.returns-clause-taken
returns-clause-taken g c to are =
    let names = c.args.names.now in
    let r : c.deref-3.result.now ≡ string_bytes names.part = search rules in
    let s : c.deref-4.result.now ≡ string_bytes names.part_log = search rules in
    let own = clears_own to _ _ (r ∙ are.part_is) (s ∙ are.part_log_is) in
    on_failed _ _ (Tried c.deref-7.result.now) c.check_writable.result c.check_writable.ensures (λ failed.
    not_free_after to _ _ _ _ c.in_ok-check_free.ensures tt
    (not_free_after to _ _ _ _ c.in_ok-check_free-2.ensures tt
    (not_free_after to _ _ _ _ c.in_ok-clear_part.ensures own
    (not_free_after to _ _ _ _ c.in_ok-check_free-3.ensures tt
    (not_free_after to _ _ _ _ c.in_ok-check_free-4.ensures tt
    (not_free_now to _ _ failed))))))
