-- Why words are no line, from what their readers lack.
use Rattle.std.proofs.Common.{◌≡◌, ℕ, List, [], ◌∷◌, Option, Some, None, Result, Ok, Err, get_or, length, map, sym, subst, ◌<◌, ◌+◌, ◌++◌, take, zero, suc, ap, ap₂, ◌∙◌, refl, arith, IfErr, ◌≢◌, ◌⊎◌, inl, inr, true}
use Rattle.std.specs.Result.{IsErrAnd}
use Rattle.clap.specs.Walk.{Text}
use Rattle.std.proofs.lemmas.List.{map_more}
use Rattle.std.specs.List.{slice_split}
use Rattle.clap.specs.Simple.{App}
use Rattle.clap.specs.Takes.{takes}
use Rattle.clap.specs.Values.{kind_of}
use Rattle.clap.specs.declared.error.Error.{Error}
use Rattle.clap.specs.declared.error.kind.ErrorKind.TheVariants as kind
use Rattle.desk_rules.specs.Limits.{permitted_in}
use Rattle.desk_rules.specs.declared.permission.PermitFault.{PermitFault}
use Rattle.desk_cli.specs.Grammar.{ArePermittedIn, is_comma, priority_in, IsRefusedByClap, RefusesOnlyWithout, program}
use Rattle.desk_cli.specs.declared.line.WordsFault.{WordsFault}
use Rattle.desk_cli.specs.declared.line.WordsFault.TheVariants as fault

-- a fault that is handed on: what lacks a part lacks the whole
pub lacks_part : {A B C D : Type 0} (P : B → Type 0) (Q : D → Type 0) (one : Result A WordsFault)
    (whole : Result C WordsFault) (f : WordsFault) → one ≡ Err f → IsErrAnd whole (λ e. e ≡ f)
    → ((d : D) → Q d → (b : B) × P b) → RefusesOnlyWithout P one → RefusesOnlyWithout Q whole
lacks_part P Q one (Ok value) f was is part lacks = tt
lacks_part {A} {B} {C} {D} P Q one (Err e) f was is part lacks =
    subst (λ e. RefusesOnlyWithout {A = C} Q (Err e)) (sym is) (by f (subst (RefusesOnlyWithout P) was lacks))
  where
    by : (f : WordsFault) → RefusesOnlyWithout {A = A} P (Err f) → RefusesOnlyWithout {A = C} Q (Err f)
    by fault.OutOfMemory h = tt
    by (fault.Words error) h = h
    by fault.Value h = λ d q. h (part d q).0 (part d q).1

-- a list all of whose elements are read has none that isn't
pub all_read : {A B : Type 0} (f : A → Option B) (xs : List A) (ys : List B) (i : ℕ) (d : A) → i < length xs
    → f (get_or xs i d) ≡ None → map Some ys ≡ map f xs → ⊥
all_read f [] ys i d below none is = omega (arith, below)
all_read f (x ∷ xs) [] i d below none is = cc
all_read f (x ∷ xs) (y ∷ ys) zero d below none is = cc
all_read f (x ∷ xs) (y ∷ ys) (suc i) d below none is = all_read f xs ys i d (omega (arith, below)) none cc

some_push : {B : Type 0} (ys : List B) (y : B) → map Some (ys ++ y ∷ []) ≡ map Some ys ++ Some y ∷ []
some_push [] y = refl
some_push (z ∷ ys) y = ap (λ rest. Some z ∷ rest) (some_push ys y)

-- one more is read
pub one_read : {A B : Type 0} (f : A → Option B) (xs : List A) (ys new : List B) (i : ℕ) (d : A) (y : B)
    → i < length xs → new ≡ ys ++ y ∷ [] → f (get_or xs i d) ≡ Some y → map Some ys ≡ map f (take i xs)
    → map Some new ≡ map f (take (i + 1) xs)
one_read f xs ys new i d y below is found read =
    ap (map Some) is ∙ (some_push ys y ∙ (ap₂ (λ a b. a ++ b ∷ []) read (sym found)
    ∙ sym (map_more f xs i d below)))

some_same : (xs ys : List ℕ) → map Some xs ≡ map Some ys → xs ≡ ys
some_same [] [] is = refl
some_same [] (y ∷ ys) is = cc
some_same (x ∷ xs) [] is = cc
some_same (x ∷ xs) (y ∷ ys) is =
    let head : x ≡ y = cc in
    let tail : map Some xs ≡ map Some ys = cc in
    ap₂ (λ z zs. z ∷ zs) head (some_same xs ys tail)

-- priorities that can't be permitted are not those of a word that permits some
pub not_permitted : (word ps priorities : List ℕ) (made : Result (List ℕ) PermitFault) (f : PermitFault)
    → made ≡ permitted_in priorities → made ≡ Err f
    → map Some priorities ≡ map priority_in (slice_split is_comma word) → ArePermittedIn word ps → ⊥
not_permitted word ps priorities made f is err read h =
    let same : ps ≡ priorities = some_same ps priorities (h.numbers ∙ sym read) in
    let fit : permitted_in priorities ≡ Ok ps = ap permitted_in (sym same) ∙ h.fit in
    let bad : Err f ≡ Ok ps = sym err ∙ (is ∙ fit) in
    cc

-- what lacks one thing lacks each that has it
pub lacks_same : {A B : Type 0} (P Q : B → Type 0) (r : Result A WordsFault) → ((b : B) → Q b → P b)
    → RefusesOnlyWithout P r → RefusesOnlyWithout Q r
lacks_same P Q (Ok value) has h = tt
lacks_same P Q (Err fault.OutOfMemory) has h = tt
lacks_same P Q (Err (fault.Words error)) has h = h
lacks_same P Q (Err fault.Value) has h = λ b q. h b (has b q)

-- the words that `clap` refuses
pub untaken : {A : Type 0} (words : List Text) (app : App) (done : Result A WordsFault) (e : Error)
    → app ≡ program
    → IsErrAnd done (λ f. (f ≡ fault.OutOfMemory)
    ⊎ ((f ≡ fault.Words e) × (kind_of e ≢ kind.OutOfMemory)))
    → (takes app words ≡ true → kind_of e ≡ kind.OutOfMemory) → IfErr done (IsRefusedByClap words)
untaken words app (Ok value) e same reported passes = tt
untaken words app (Err f) e same (inl is) passes = subst (IsRefusedByClap words) (sym is) tt
untaken words app (Err f) e same (inr other) passes = subst (IsRefusedByClap words) (sym other.0) (
  λ taken. other.1 (passes (subst (λ a. takes a words ≡ true) (sym same) taken)),
  other.1,
)
