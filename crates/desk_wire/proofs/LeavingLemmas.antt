-- What answering a request leaves, by what its calls left.
use Rattle.std.proofs.Common.{◌≡◌, ◌≢◌, ℤ, Some, Result, Ok, Err, IfOk, IfErr, arith}
use Rattle.desk_rules.specs.declared.call.Asked.{Asked}
use Rattle.request_parser.specs.Messages.{Reading}
use Rattle.desk_run.specs.Verdicts.{DeskWorld}
use Rattle.desk_run.specs.declared.fault.DeskFault.TheVariants as desk
use Rattle.desk_wire.specs.Bytes.{IsDone, IsMadeAnswer, makes_change_for, status_for, failure_of}
use Rattle.desk_wire.specs.declared.answering.Response.{Response}
use Rattle.desk_wire.specs.declared.response.ServerError.{ServerError}
use Rattle.desk_wire.specs.declared.response.ServerError.TheVariants.{OutOfMemory, Store}

-- what was made, by its text, its status code and whether a change was made
pub made_if : (H : Type 0) (r : Result Response ServerError) (w : DeskWorld) (moment : ℤ)
    (reading : Reading Asked) (after : DeskWorld)
    → (H → IfOk r (λ v. IsDone w moment reading v.bytes.items after))
    → (H → IfOk r (λ v. v.status ≡ status_for w moment reading)) → IfOk r (λ v. v.status ≢ 500)
    → (H → IfOk r (λ v. v.made_change ≡ makes_change_for w moment reading))
    → IfOk r (IsMadeAnswer H w moment reading after)
made_if H (Ok v) w moment reading after bytes status other change =
    record { bytes = bytes; status = status; other = other; change = change }
made_if H (Err e) w moment reading after bytes status other change = tt

-- a reply's status code is no 500
pub no_500 : (r : Result Response ServerError) → IfOk r (λ v. v.status ≡ 200) → IfOk r (λ v. v.status ≢ 500)
no_500 (Ok v) is = λ h. omega (arith, is, h)
no_500 (Err e) is = tt

-- a refusal that only memory can keep from its answer
pub not_store : {V : Type 0} (r : Result V ServerError) → IfErr r (λ e. e ≡ OutOfMemory)
    → failure_of r ≡ Some desk.Store → ⊥
not_store (Ok v) memory is = cc
not_store (Err OutOfMemory) memory is = cc
not_store (Err Store) memory is = cc
