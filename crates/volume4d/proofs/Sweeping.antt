-- The sweep over two lists that ascend.
use Rattle.std.proofs.Common.{◌≡◌, ℕ, ◌+◌, ◌-◌, ◌<◌, ◌≤◌, Bool, true, false, ◌&&◌, ◌||◌, ltb, List, [], ◌∷◌, ◌++◌, length, get_or, take, drop, Option, Some, None, refl, sym, ap, ◌∙◌, subst, arith, Less, take-append-drop, length-drop}
use Rattle.std.specs.Ordering.{ordering_then, nat_cmp}
use Rattle.std.specs.declared.cmp.Ordering.{Ordering}
use Rattle.std.proofs.Math.Bool.{and-or_distrib_left}
use Rattle.std.proofs.lemmas.Bool.{false_from_ne_true}
use Rattle.std.proofs.lemmas.Bool.Decides.{nat_tests}
use Rattle.std.proofs.lemmas.List.{take_more, get_or-drop, get_or_default, get_or_push, length_push}
use Rattle.std.proofs.lemmas.List.Folds.{list_any-append, list_any_more, Any-from_list_any}
use Rattle.std.proofs.lemmas.List.Sorted.{IsNonDecreasingBy-push}
use Rattle.s2_hilbert.specs.Curve.{position_of}
use Rattle.s2_cellid.specs.Cell.{leaf_id_at}
use Rattle.volume4d.specs.declared.slab.Slab.{Slab}
use Rattle.volume4d.specs.Volume.{Point}
use Rattle.volume4d.specs.Slab.{slab_has}
use Rattle.volume4d.specs.Sweep.{IsFirstPoint, items_have, Ascend, IsLate, AreLate}
use Rattle.volume4d.proofs.FirstPoints.{first_point_same}
use Rattle.volume4d.proofs.lemmas.Slab.{IsIn-from_has}

pub or_assoc : (a b c : Bool) → (a || (b || c)) ≡ ((a || b) || c)
or_assoc true b c = refl
or_assoc false b c = refl

pub and_last : (a b : Bool) → (a && b) ≡ (b && a)
and_last true true = refl
and_last true false = refl
and_last false true = refl
and_last false false = refl

-- a slab begins up to each of its points
pub begins_up_to : (s : Slab) (x : Point) → slab_has s x ≡ true → s.first ≤ position_of x.leaf
begins_up_to s x h = let first = (IsIn-from_has s x h).first in grind (arith, nat_tests)

pub not_less_after : (a b : ℕ) (rest : Ordering) → a < b
    → ordering_then (nat_cmp (leaf_id_at b) (leaf_id_at a)) rest ≡ Less → ⊥
not_less_after a b rest below e = by_ids (nat_cmp (leaf_id_at b) (leaf_id_at a)) refl e where
  by_ids : (o : Ordering) → nat_cmp (leaf_id_at b) (leaf_id_at a) ≡ o → ordering_then o rest ≡ Less → ⊥
  by_ids o is same = grind (arith, nat_tests)

-- no point after the position of another comes before it
pub late_after : (position : ℕ) (p : Point) → ltb (position_of p.leaf) position ≡ true
    → AreLate position (Some p)
late_after position p below x later e =
    not_less_after (position_of p.leaf) (position_of x.leaf) _ (grind (arith, nat_tests, below, later)) e

-- what comes late changes nothing
pub found_stays : (f g : Point → Bool) (o : Option Point) → IsFirstPoint f o
    → ((x : Point) → g x ≡ true → IsLate o x) → IsFirstPoint (λ x. f x || g x) o
found_stays f g None none late =
    λ x. ap (λ b. b || g x) (none x) ∙ false_from_ne_true (g x) (λ h. late x h)
found_stays f g (Some p) first late = (
  ap (λ b. b || g p) first.0,
  λ x less. ap (λ b. b || g x) (first.1 x less) ∙ false_from_ne_true (g x) (λ h. late x h less),
)

-- one more of a list
pub one_more_placed : {A : Type 0} (slab_of : A → Slab) (f : Point → Bool) (list : List A) (n : ℕ) (item : A)
    (x : Point) → n < length list → item ≡ get_or list n item
    → ((f x && items_have slab_of (take n list) x) || (f x && slab_has (slab_of item) x))
    ≡ (f x && items_have slab_of (take (n + 1) list) x)
one_more_placed slab_of f list n item x below is =
    sym (and-or_distrib_left (f x) (items_have slab_of (take n list) x) (slab_has (slab_of item) x))
    ∙ ap (λ b. f x && b) (sym (list_any_more (λ a. slab_has (slab_of a) x) list n item below
    ∙ ap (λ a. items_have slab_of (take n list) x || slab_has (slab_of a) x) (sym is)))

module _ {A : Type 0} (slab_of : A → Slab) where
  -- a list in two parts
  pub in_parts : (n : ℕ) (list : List A) (x : Point)
      → items_have slab_of list x
      ≡ (items_have slab_of (take n list) x || items_have slab_of (drop n list) x)
  in_parts n list x =
      ap (λ l. items_have slab_of l x) (sym (take-append-drop n list))
      ∙ list_any-append (λ a. slab_has (slab_of a) x) (take n list) (drop n list)

  -- all points of an ascending list from a place on are at or after the first leaf of the slab there
  pub later_begin : (list : List A) (n : ℕ) (item : A) (x : Point) → n < length list
      → item ≡ get_or list n item → Ascend slab_of list → items_have slab_of (drop n list) x ≡ true
      → (slab_of item).first ≤ position_of x.leaf
  later_begin list n item x below is up has =
      let one = Any-from_list_any (λ a. slab_has (slab_of a) x) (drop n list) has in
      let there = get_or-drop n list one.0 one.1 in
      let inside : n + one.0 < length list = omega (arith, one.2, length-drop n list) in
      let order = up n (n + one.0) item (omega arith) inside in
      let same : get_or list (n + one.0) item ≡ one.1 =
      get_or_default list (n + one.0) item one.1 inside ∙ sym there ∙ one.3 in
      omega (
        arith,
        ap (λ a. (slab_of a).first) is,
        order,
        ap (λ a. (slab_of a).first) same,
        begins_up_to (slab_of one.1) x one.4,
      )

-- one more of theirs, where all are compared
pub one_more_of_theirs : {A : Type 0} (slab_of : A → Slab) (f : Point → Bool) (list : List A) (n : ℕ)
    (item : A) (o : Option Point) → n < length list → item ≡ get_or list n item
    → IsFirstPoint (λ x. (f x && items_have slab_of (take n list) x)
    || (f x && slab_has (slab_of item) x)) o
    → IsFirstPoint (λ x. f x && items_have slab_of (take (n + 1) list) x) o
one_more_of_theirs slab_of f list n item o below is =
    first_point_same _ _ (λ x. one_more_placed slab_of f list n item x below is) o

last_pushed : {A : Type 0} (list : List A) (item d : A)
    → get_or (list ++ item ∷ []) (length (list ++ item ∷ []) - 1) d ≡ item
last_pushed list item d =
    let last : length (list ++ item ∷ []) - 1 ≡ length list = omega (arith, length_push list item) in
    ap (λ k. get_or (list ++ item ∷ []) k d) last ∙ get_or_push list item d (length list) refl

-- the first leaves of a list do not fall, and none is above the number
pub record IsRisingTo {A : Type 0} (slab_of : A → Slab) (list : List A) (number : ℕ) : Type 0 where
  pub up : Ascend slab_of list
  pub top : (d : A) → 0 < length list → (slab_of (get_or list (length list - 1) d)).first ≤ number

pub rises_more : {A : Type 0} (slab_of : A → Slab) (list : List A) (n : ℕ) (item : A) (number next : ℕ)
    → n < length list → item ≡ get_or list n item → IsRisingTo slab_of (take n list) number
    → number ≤ next → next ≡ (slab_of item).first → IsRisingTo slab_of (take (n + 1) list) next
rises_more {A} slab_of list n item number next below is so_far order begins =
    subst (λ l. IsRisingTo slab_of l next)
    (sym (take_more list n item below ∙ ap (λ a. take n list ++ a ∷ []) (sym is)))
    (record {
      up = IsNonDecreasingBy-push (λ a. (slab_of a).first) (take n list) item so_far.up
          (λ d some. omega (arith, so_far.top d some, order, begins));
      top = λ d some.
          let last : get_or (take n list ++ item ∷ []) (length (take n list ++ item ∷ []) - 1) d ≡ item =
          last_pushed (take n list) item d
          in omega (arith, ap (λ a. (slab_of a).first) last, begins);
    })
