-- Reading the items of an array one after another.
use Rattle.std.proofs.Common.{◌≡◌, ℕ, suc, ◌+◌, ◌<◌, ◌≤◌, List, [], ◌∷◌, ◌++◌, length, get_or, drop, Ok, Err, refl, ap, sym, append_assoc, add-one, drop-cons}
use Rattle.std.proofs.lemmas.List.{append-nil, drop_all}
use Rattle.serde_json.specs.Data.{Data, Items, no_items, item}
use Rattle.serde_json.specs.Events.{items_len}
use Rattle.serde_json.specs.View.{view, items_view}
use Rattle.serde_json.specs.declared.value.Value.{Value}
use Rattle.request_parser.specs.Messages.{Reading, or_met}
use Rattle.request_parser.specs.Requests.{each}
use Rattle.request_parser.specs.declared.wire_fault.WireFault.{WireFault}

-- what is read in all, where `front` has been read
abbrev pub with_front : {A : Type 0} → List A → Reading (List A) → Reading (List A)
with_front front (Ok rest) = Ok (front ++ rest)
with_front front (Err fault) = Err fault

-- what is read in all, once the items before the place i are
unfoldable pub read_from : {A : Type 0} → (Data → Reading A) → List A → List Value → ℕ
    → Reading (List A)
read_from f front vs i = with_front front (each f (items_view (drop i vs)))

with_front-nil : {A : Type 0} (r : Reading (List A)) → with_front [] r ≡ r
with_front-nil (Ok xs) = refl
with_front-nil (Err fault) = refl

with_front-more : {A : Type 0} (front : List A) (x : A) (r : Reading (List A))
    → with_front (front ++ x ∷ []) r ≡ with_front front (or_met r λ xs. Ok (x ∷ xs))
with_front-more front x (Ok xs) = ap Ok (append_assoc front (x ∷ []) xs)
with_front-more front x (Err fault) = refl

next_item : (vs : List Value) (i : ℕ) (d : Value) → i < length vs → items_view (drop i vs)
    ≡ item (view (get_or vs i d)) (items_view (drop (i + 1) vs))
next_item vs i d below = rw (add-one, drop-cons vs i d below)

pub read_from-start : {A : Type 0} (f : Data → Reading A) (vs : List Value) → each f (items_view vs)
    ≡ read_from f [] vs 0
unfolding read_from
read_from-start f vs = sym (with_front-nil (each f (items_view vs)))

pub read_from-more : {A : Type 0} (f : Data → Reading A) (front : List A) (vs : List Value) (i : ℕ)
    (d : Value) (x : A)
    → i < length vs → f (view (get_or vs i d)) ≡ Ok x → read_from f front vs i
    ≡ read_from f (front ++ x ∷ []) vs (i + 1)
unfolding read_from
read_from-more f front vs i d x below is = rw (next_item vs i d below, is)
    (sym (with_front-more front x (each f (items_view (drop (i + 1) vs)))))

pub read_from-stop : {A : Type 0} (f : Data → Reading A) (front : List A) (vs : List Value) (i : ℕ)
    (d : Value) (fault : WireFault)
    → i < length vs → f (view (get_or vs i d)) ≡ Err fault → read_from f front vs i ≡ Err fault
unfolding read_from
read_from-stop f front vs i d fault below is = rw (next_item vs i d below, is)

pub read_from-end : {A : Type 0} (f : Data → Reading A) (front : List A) (vs : List Value) (i : ℕ)
    → length vs ≤ i → read_from f front vs i ≡ Ok front
unfolding read_from
read_from-end f front vs i past = rw (drop_all i vs past) (ap Ok (append-nil front))

counted : {A : Type 0} (n : ℕ) (r : Reading A) (rest : Reading (List A)) (xs : List A)
    → ((ys : List A) → rest ≡ Ok ys → length ys ≡ n) → (or_met r λ x. or_met rest λ ys. Ok (x ∷ ys))
    ≡ Ok xs
    → length xs ≡ suc n
counted n (Ok x) (Ok ys) xs hyp is = let same : xs ≡ x ∷ ys = cc in rw (same, hyp ys refl)
counted n (Ok x) (Err fault) xs hyp is = cc
counted n (Err fault) rest xs hyp is = cc

-- as many are read as there are items
pub length-each : {A : Type 0} (f : Data → Reading A) (ds : Items) (xs : List A) → each f ds ≡ Ok xs
    → length xs ≡ items_len ds
length-each f no_items xs is = let same : xs ≡ [] = cc in rw same
length-each f (item d ds) xs is = counted (items_len ds) (f d) (each f ds) xs (length-each f ds) is
