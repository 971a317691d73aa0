-- What is said of the lines of a file, one after the other.
use Rattle.std.proofs.Common.{◌≡◌, ◌<◌, ◌+◌, ℕ, Bor, List, [], ◌∷◌, ◌++◌, Option, ap, drop, get_or, length, map, refl, subst, sym}
use Rattle.std.proofs.lemmas.List.{drop_more}
use Rattle.desk_wire.specs.Streams.{course}
use Rattle.host_files.specs.Naming.{IsWrittenIfRoom, Reports}
use Rattle.desk_host.specs.Operators.{AreReported, counted_with, line_reported, lines_reported, lines_reported_after}
use Rattle.desk_host.specs.declared.operators.LineCounts.{LineCounts}
use Rattle.host_files.proofs.lemmas.Reporting.{reports_both}

-- one line is reported
pub reported_one : (line : List ℕ) (old now : Option (List ℕ)) → IsWrittenIfRoom line (course old now)
    → AreReported (line ∷ []) old now
reported_one line old now written = (now, written, refl)

-- some lines are reported, and then others
pub reported_both : (xs ys : List (List ℕ)) (old between now : Option (List ℕ)) → AreReported xs old between
    → AreReported ys between now → AreReported (xs ++ ys) old now
reported_both [] ys old between now first next = subst (λ at. AreReported ys at now) first next
reported_both (x ∷ xs) ys old between now first next =
    (first.0, first.1, reported_both xs ys first.0 between now first.2 next)

-- some of the lines of a file were looked at, so many, and these are left: whatever is said of them, it
-- was said of all
pub record AreReportedOf (path : List ℕ) (all : List (List ℕ)) (so_far : LineCounts) (rest : List (List ℕ))
    (before now : Option (List ℕ)) : Type 0 where
  pub reported : (end : Option (List ℕ)) → AreReported (lines_reported_after path so_far rest) now end
      → AreReported (lines_reported path all) before end
  pub some : Reports (course before now)

-- one more was looked at
pub reported_next : (path : List ℕ) (all : List (List ℕ)) (lines : List (Bor (List ℕ))) (i : ℕ)
    (d : Bor (List ℕ)) (so_far next : LineCounts) (before between now : Option (List ℕ)) → i < length lines
    → next ≡ counted_with (get_or lines i d).now so_far
    → AreReportedOf path all so_far (map (λ line. line.now) (drop i lines)) before between
    → AreReported (line_reported path (get_or lines i d).now next) between now → Reports (course between now)
    → AreReportedOf path all next (map (λ line. line.now) (drop (i + 1) lines)) before now
reported_next path all lines i d so_far next before between now below is so here some =
    let line = (get_or lines i d).now in
    let text : Bor (List ℕ) → List ℕ = λ line. line.now in
    let rest = map text (drop (i + 1) lines) in
    let at : map text (drop i lines) ≡ line ∷ rest = ap (map text) (drop_more lines i d below) in
    record {
      reported = λ end after. so.reported end
          (subst (λ (ls : List (List ℕ)). AreReported (lines_reported_after path so_far ls) between end) (sym at)
          (subst (λ (c : LineCounts). AreReported (line_reported path line c ++ lines_reported_after path c rest) between end)
          is
          (reported_both (line_reported path line next) (lines_reported_after path next rest) between now end here after)));
      some = reports_both so.some some;
    }
