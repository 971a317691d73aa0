-- What a loop over slots comes to, from one slot on.
use Rattle.std.proofs.Common.{◌≡◌, ◌↔◌, ◌<◌, ◌≤◌, ◌+◌, ◌-◌, ℕ, suc, Bool, true, false, List, ◌++◌, drop, length, take, length-append, IfOk, IfSome, OnOk, Result, Ok, Err, Option, None, Some, is_some, IsTrue, option_and_then, if◌then◌else◌, ◌&&◌, ap, arith, refl, sym, subst, ◌∙◌}
use Rattle.std.proofs.lemmas.List.{drop_at, get_or_append_left, take_at}
use Rattle.sqlite_wal.specs.PageSize.{IsPageSize, size_in_file}
use Rattle.std.specs.Fmt.{option_append}
use Rattle.std.specs.Io.KnownBytes.{Appends, Consumes}
use Rattle.db_file.specs.Orders.{HasOtherOrder, has_checksum_space, has_other_order, mended, ordered, ordered_file, ordered_page, with_sums, are_moved, is_moved_by_name, is_slot_named, placed, placed_by_name, slot_from}

less_one : (n k : ℕ) → k < n → n - k ≡ suc (n - (k + 1))
less_one n k less = omega (arith, less)

-- ---- a slot that is looked for

pub found_here : (page name : List ℕ) (k n : ℕ) → k < n → is_slot_named page k name ≡ true
    → slot_from page name k (n - k) ≡ Some k
unfolding slot_from
found_here page name k n less is =
    ap (slot_from page name k) (less_one n k less)
    ∙ ap (λ b. if b then Some k else slot_from page name (k + 1) (n - (k + 1))) is

pub found_later : (page name : List ℕ) (k n : ℕ) → k < n → is_slot_named page k name ≡ false
    → slot_from page name k (n - k) ≡ slot_from page name (k + 1) (n - (k + 1))
unfolding slot_from
found_later page name k n less is =
    ap (slot_from page name k) (less_one n k less)
    ∙ ap (λ b. if b then Some k else slot_from page name (k + 1) (n - (k + 1))) is

pub found_nowhere : (page name : List ℕ) (k n : ℕ) → n ≤ k → slot_from page name k (n - k) ≡ None
unfolding slot_from
found_nowhere page name k n most =
    let e : n - k ≡ 0 = omega (arith, most) in ap (slot_from page name k) e

-- ---- slots that are compared

pub moved_not : (packed : Bool) (old page : List ℕ) (k n : ℕ) → k < n
    → is_moved_by_name packed old page k ≡ false
    → are_moved packed old page k (n - k) ≡ false
unfolding are_moved
moved_not packed old page k n less is =
    ap (are_moved packed old page k) (less_one n k less)
    ∙ ap (λ b. b && are_moved packed old page (k + 1) (n - (k + 1))) is

pub moved_on : (packed : Bool) (old page : List ℕ) (k n : ℕ) → k < n
    → is_moved_by_name packed old page k ≡ true
    → are_moved packed old page k (n - k) ≡ are_moved packed old page (k + 1) (n - (k + 1))
unfolding are_moved
moved_on packed old page k n less is =
    ap (are_moved packed old page k) (less_one n k less)
    ∙ ap (λ b. b && are_moved packed old page (k + 1) (n - (k + 1))) is

pub moved_all : (packed : Bool) (old page : List ℕ) (k n : ℕ) → n ≤ k
    → are_moved packed old page k (n - k) ≡ true
unfolding are_moved
moved_all packed old page k n most =
    let e : n - k ≡ 0 = omega (arith, most) in ap (are_moved packed old page k) e

-- ---- slots that are given rows

pub placed_not : (old page : List ℕ) (k n : ℕ) → k < n → placed_by_name old k page ≡ None
    → placed old k (n - k) page ≡ None
unfolding placed
placed_not old page k n less is =
    ap (λ m. placed old k m page) (less_one n k less)
    ∙ ap (option_and_then (placed old (k + 1) (n - (k + 1)))) is

pub placed_on : (old page new : List ℕ) (k n : ℕ) → k < n → placed_by_name old k page ≡ Some new
    → placed old k (n - k) page ≡ placed old (k + 1) (n - (k + 1)) new
unfolding placed
placed_on old page new k n less is =
    ap (λ m. placed old k m page) (less_one n k less)
    ∙ ap (option_and_then (placed old (k + 1) (n - (k + 1)))) is

pub placed_all : (old page : List ℕ) (k n : ℕ) → n ≤ k → placed old k (n - k) page ≡ Some page
unfolding placed
placed_all old page k n most =
    let e : n - k ≡ 0 = omega (arith, most) in ap (λ m. placed old k m page) e

-- ---- a file whose first page is read

-- a page was read of a file, and put in order
ordered_whole : (bytes rest raw page : List ℕ) (size : ℕ) → length raw ≡ size → page ≡ ordered_page raw
    → bytes ≡ raw ++ rest → page ++ rest ≡ ordered_file size bytes
ordered_whole bytes rest raw page size long is took =
    let front : raw ≡ take size bytes = sym (ap (take size) took ∙ take_at raw rest size long) in
    let back : rest ≡ drop size bytes = sym (ap (drop size) took ∙ drop_at raw rest size long) in
    ap (λ l. l ++ rest) (is ∙ ap ordered_page front) ∙ ap (λ l. ordered_page (take size bytes) ++ l) back

pub ordered_size : (known left : Option (List ℕ)) (raw page : List ℕ) (size : ℕ) → length raw ≡ size
    → length page ≡ size → page ≡ ordered_page raw → Consumes known left raw
    → IfSome known (λ bytes. length (ordered_file size bytes) ≡ length bytes)
ordered_size None left raw page size long as_long is took = tt
ordered_size (Some bytes) None raw page size long as_long is took = absurd took
ordered_size (Some bytes) (Some rest) raw page size long as_long is took =
    let same = ordered_whole bytes rest raw page size long is took in
    let both : length (page ++ rest) ≡ length (raw ++ rest) =
    length-append page rest ∙ ap (λ n. n + length rest) (as_long ∙ sym long) ∙ sym (length-append raw rest) in
    ap length (sym same) ∙ both ∙ ap length (sym took)

pub ordered_left : (known left : Option (List ℕ)) (raw page : List ℕ) (size : ℕ) → length raw ≡ size
    → page ≡ ordered_page raw → Consumes known left raw
    → IfSome known (λ bytes. option_append (Some page) left ≡ Some (ordered_file size bytes))
ordered_left None left raw page size long is took = tt
ordered_left (Some bytes) None raw page size long is took = absurd took
ordered_left (Some bytes) (Some rest) raw page size long is took =
    ap Some (ordered_whole bytes rest raw page size long is took)

-- what is copied of that page and of what is left is copied of the file
pub mended_all : {U E : Type 0} (done : Result U E) (known whole : Option (List ℕ)) (size len : ℕ)
    (sums : Bool) (out now : Option (List ℕ))
    → IfSome known (λ bytes. length (ordered_file size bytes) ≡ length bytes)
    → IfSome known (λ bytes. whole ≡ Some (ordered_file size bytes))
    → OnOk done (IfSome whole (λ bytes. length bytes ≡ len → Appends out now (with_sums sums size bytes)))
    → OnOk done (IfSome known (λ bytes. length bytes ≡ len → Appends out now (mended sums size bytes)))
mended_all (Err e) known whole size len sums out now long is given = tt
mended_all (Ok u) None whole size len sums out now long is given = tt
mended_all (Ok u) (Some bytes) whole size len sums out now long is given = λ same.
    subst (λ w. IfSome w (λ it. length it ≡ len
    → Appends out now (with_sums sums size it))) is given (long ∙ same)

-- ---- a file of which the header is read, and then the first page

first_of : (after : Option (List ℕ)) (front page bytes : List ℕ) (size : ℕ) → front ≡ bytes
    → Consumes (Some front) after page → length page ≡ size → page ≡ take size bytes
first_of None front page bytes size is read long = absurd read
first_of (Some rest) front page bytes size is read long =
    sym (ap (take size) (sym is ∙ read) ∙ take_at page rest size long)

-- the header says what the file says
pub header_says : (known left : Option (List ℕ)) (header : List ℕ) → length header ≡ 24
    → Consumes known left header → IfSome known (λ bytes. size_in_file bytes ≡ size_in_file header)
header_says None left header long took = tt
header_says (Some bytes) None header long took = absurd took
header_says (Some bytes) (Some rest) header long took =
    let more = length-append header rest in
    let first = get_or_append_left header rest 0 16 (omega (arith, long)) in
    let second = get_or_append_left header rest 0 17 (omega (arith, long)) in
    rw took (grind (arith, long, more, first, second))

-- a page is read of the header and what is left of the file
pub page_read : {U E : Type 0} (done : Result U E) (left whole after : Option (List ℕ)) (header page : List ℕ)
    → whole ≡ option_append (Some header) left → OnOk done (Consumes whole after page)
    → OnOk done (IfSome left (λ rest. page ≡ take (length page) (header ++ rest)))
page_read (Err e) left whole after header page is read = tt
page_read (Ok u) None whole after header page is read = tt
page_read (Ok u) (Some rest) whole after header page is read =
    first_of after (header ++ rest) page (header ++ rest) (length page) refl
    (subst (λ w. Consumes w after page) is read) refl

-- whether it lists a desk's tables so is said of it
pub page_reported : (left : Option (List ℕ)) (reported : Bool) (header page : List ℕ) (size : ℕ)
    → IfSome left (λ rest. page ≡ take (length page) (header ++ rest)) → length page ≡ size
    → reported ≡ is_some (ordered page)
    → IfSome left (λ rest. reported ≡ is_some (ordered (take size (header ++ rest))))
page_reported None reported header page size is long says = tt
page_reported (Some rest) reported header page size is long says =
    says ∙ ap (λ p. is_some (ordered p)) (is ∙ ap (λ n. take n (header ++ rest)) long)

-- and so of the file
pub file_reported : {E : Type 0} (done : Result Bool E) (known left : Option (List ℕ)) (header : List ℕ) (size : ℕ)
    → Consumes known left header → IfSome known (λ bytes. size_in_file bytes ≡ size_in_file header)
    → size ≡ size_in_file header
    → IfOk done (λ reported. IfSome left (λ rest. reported ≡ is_some (ordered (take size (header ++ rest)))))
    → IfOk done (λ reported. IfSome known (λ bytes. IsPageSize (size_in_file bytes) → reported ≡ has_other_order bytes))
file_reported (Err e) known left header size took says named reported = tt
file_reported (Ok it) None left header size took says named reported = tt
file_reported (Ok it) (Some bytes) None header size took says named reported = absurd took
file_reported (Ok it) (Some bytes) (Some rest) header size took says named reported = λ sized.
    reported ∙ ap (λ p. is_some (ordered p))
    (ap (take size) (sym took) ∙ ap (λ n. take n bytes) (named ∙ sym says))

-- with the size of its pages
pub order_said : {E : Type 0} (done : Result Bool E) (known : Option (List ℕ)) (header : List ℕ)
    → IfSome known (λ bytes. size_in_file bytes ≡ size_in_file header) → IsPageSize (size_in_file header)
    → IfOk done (λ is. IfSome known (λ bytes. IsPageSize (size_in_file bytes) → is ≡ has_other_order bytes))
    → IfOk done (λ is. IfSome known (λ bytes. IsTrue is ↔ HasOtherOrder bytes))
order_said (Err e) known header says sized given = tt
order_said (Ok is) None header says sized given = tt
order_said (Ok is) (Some bytes) header says sized given =
    let here : IsPageSize (size_in_file bytes) = subst IsPageSize (sym says) sized in
    ((λ is_true. (here, sym (given here) ∙ is_true)), (λ has. given here ∙ has.1))

-- ---- a file that is copied as its header says

sums_said : (bytes header rest : List ℕ) → length header ≡ 24 → bytes ≡ header ++ rest
    → has_checksum_space bytes ≡ has_checksum_space header
sums_said bytes header rest long took =
    let more = length-append header rest in
    let said = get_or_append_left header rest 0 20 (omega (arith, long)) in
    rw took (grind (arith, long, more, said))

pub copied_as_said : {U E : Type 0} (done : Result U E) (known left whole : Option (List ℕ)) (header : List ℕ)
    (size len : ℕ) (sums : Bool) (out now : Option (List ℕ))
    → length header ≡ 24 → Consumes known left header → whole ≡ option_append (Some header) left
    → size ≡ size_in_file header → sums ≡ has_checksum_space header
    → OnOk done (IfSome whole (λ bytes. length bytes ≡ len → Appends out now (mended sums size bytes)))
    → OnOk done (IfSome known (λ bytes. length bytes ≡ len
    → Appends out now (mended (has_checksum_space bytes) (size_in_file bytes) bytes)))
copied_as_said (Err e) known left whole header size len sums out now long took is named said given = tt
copied_as_said (Ok u) None left whole header size len sums out now long took is named said given = tt
copied_as_said (Ok u) (Some bytes) None whole header size len sums out now long took is named said given =
    absurd took
copied_as_said (Ok u) (Some bytes) (Some rest) whole header size len sums out now long took is named said given =
    let copied : length bytes ≡ len → Appends out now (mended sums size bytes) =
    subst (λ w. IfSome w (λ it. length it ≡ len → Appends out now (mended sums size it)))
    (is ∙ ap (λ it. Some it) (sym took)) given in λ same.
    subst (λ n. Appends out now (mended (has_checksum_space bytes) n bytes))
    (named ∙ sym (header_says (Some bytes) (Some rest) header long took))
    (subst (λ b. Appends out now (mended b size bytes)) (said ∙ sym (sums_said bytes header rest long took))
    (copied same))

pub sized_as_said : {U E : Type 0} (done : Result U E) (known : Option (List ℕ)) (header : List ℕ)
    → IfSome known (λ bytes. size_in_file bytes ≡ size_in_file header) → IsPageSize (size_in_file header)
    → OnOk done (IfSome known (λ bytes. IsPageSize (size_in_file bytes)))
sized_as_said (Err e) known header says is = tt
sized_as_said (Ok u) None header says is = tt
sized_as_said (Ok u) (Some bytes) header says is = subst IsPageSize (sym says) is
