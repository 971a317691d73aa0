-- The value of a body, from what the library's reader says, and the exits of a `?`.
use Rattle.std.proofs.Common.{◌≡◌, ℕ, List, Bool, true, false, cond, Option, Some, None, Result, Ok, Err, refl}
use Rattle.std.proofs.lemmas.Str.{IsUtf8-from_is_utf8, is_utf8-from_IsUtf8}
use Rattle.std.specs.Result.{IsErrAnd}
use Rattle.std.specs.Str.{IsUtf8, is_utf8}
use Rattle.serde_json.specs.Data.{Data}
use Rattle.serde_json.specs.Read.{read}
use Rattle.request_parser.specs.Messages.{Reading, or_fault, GivesIfRoom}
use Rattle.request_parser.specs.Requests.{body_value}
use Rattle.request_parser.specs.declared.wire_fault.ReadError.{ReadError}
use Rattle.request_parser.specs.declared.wire_fault.ReadError.TheVariants.{OutOfMemory, Fault}
use Rattle.request_parser.specs.declared.wire_fault.WireFault.{WireFault}
use Rattle.request_parser.specs.declared.wire_fault.WireFault.TheVariants.{BadJson}

pub body_value-read : (body : List ℕ) (d : Data) → IsUtf8 body → read body ≡ Some d → body_value body
    ≡ Ok d
unfolding body_value
body_value-read body d utf8 is = rw (is_utf8-from_IsUtf8 body utf8, is)

refused : (test : Bool) (r : Option Data) → (test ≡ true → r ≡ None)
    → or_fault (cond test r None) BadJson Ok
    ≡ Err BadJson
refused true r none = rw (none refl)
refused false r none = refl

pub body_value-refused : (body : List ℕ) → (IsUtf8 body → read body ≡ None) → body_value body
    ≡ Err BadJson
unfolding body_value
body_value-refused body none = refused (is_utf8 body) (read body)
    (λ utf8. none (IsUtf8-from_is_utf8 body utf8))

-- the exit of a `?` at a fault of the bytes
pub gives_fault : {A B : Type 0} (shown : B → A) (r : Result B ReadError) (fault : WireFault)
    (reading : Reading A)
    → IsErrAnd r (λ e. e ≡ Fault fault) → reading ≡ Err fault → GivesIfRoom shown r reading
gives_fault shown (Ok b) fault reading gives is = absurd gives
gives_fault shown (Err e) fault reading gives is = rw gives is

-- the exit of a `?` at the error of a call that read a part of the bytes
pub gives_again : {A B C D : Type 0} (part : B → A) (e : ReadError) (read : Reading A) (whole : D → C)
    (r : Result D ReadError) (reading : Reading C)
    → IsErrAnd r (λ e'. e' ≡ e) → GivesIfRoom part (Err e) read
    → ((fault : WireFault) → read ≡ Err fault → reading ≡ Err fault) → GivesIfRoom whole r reading
gives_again part e read whole (Ok d) reading gives is then = absurd gives
gives_again part OutOfMemory read whole (Err e') reading gives is then = rw gives tt
gives_again part (Fault fault) read whole (Err e') reading gives is then = rw gives (then fault is)
