-- Operators read from their rows, one after the other.
use Rattle.std.proofs.Common.{◌≡◌, List, [], ◌∷◌, ◌++◌, map, refl, sym, ap, ◌∙◌, append_assoc}
use Rattle.std.specs.List.{AllByRecursion}
use Rattle.sqlite_value.specs.Order.{Row}
use Rattle.desk_store.specs.World.{Listed}
use Rattle.desk_store.proofs.lemmas.Order.{all_append}
use Rattle.row_codec.specs.Tables.{row_of_operator, IsOperator, AreOperatorRows}

-- these operators were read, and these rows are left
pub record AreListed (rows : List Row) (ls : List Listed) (left : List Row) : Type 0 where
  pub within : AllByRecursion IsOperator ls
  pub so_far : rows ≡ map row_of_operator ls ++ left
  pub remain : (ks : List Listed) → AreOperatorRows ks rows → (more : List Listed) × AreOperatorRows more left

rows_append : (ls ks : List Listed) → map row_of_operator (ls ++ ks) ≡ map row_of_operator ls
    ++ map row_of_operator ks
rows_append [] ks = refl
rows_append (l ∷ ls) ks = ap (λ rs. row_of_operator l ∷ rs) (rows_append ls ks)

-- the first of the rows that are left is this operator's
pub goes_on : (rows : List Row) (ls : List Listed) (left later : List Row) (row : Row) (l : Listed)
    → AreListed rows ls left → left ≡ row ∷ later → IsOperator l → row ≡ row_of_operator l
    → AreListed rows (ls ++ l ∷ []) later
goes_on rows ls left later row l h some within is = record {
  within = all_append IsOperator ls (l ∷ []) h.within (within, tt);
  so_far =
      h.so_far ∙ (λ i. map row_of_operator ls ++ (some ∙ ap (λ r. r ∷ later) is) i)
      ∙ sym (append_assoc (map row_of_operator ls) (row_of_operator l ∷ []) later)
      ∙ ap (λ rs. rs ++ later) (sym (rows_append ls (l ∷ [])));
  remain = λ ks are. let (more, there) = h.remain ks are in tail more there;
} where
  tail : (more : List Listed) → AreOperatorRows more left → (rest : List Listed) × AreOperatorRows rest later
  tail [] there = let none : row ∷ later ≡ [] = sym some ∙ there.are in cc
  tail (k ∷ ks) there =
      let both : row ∷ later ≡ row_of_operator k ∷ map row_of_operator ks = sym some ∙ there.are in
      let rest : later ≡ map row_of_operator ks = cc in
      (ks, record { within = there.within.1; are = rest })

-- that row is of no operator
pub refused : (rows : List Row) (ls : List Listed) (left later : List Row) (row : Row)
    → AreListed rows ls left → left ≡ row ∷ later
    → ((l : Listed) → IsOperator l → row ≡ row_of_operator l → ⊥)
    → (ks : List Listed) → AreOperatorRows ks rows → ⊥
refused rows ls left later row h some none ks are = let (more, there) = h.remain ks are
    in by_more more there where
      by_more : (more : List Listed) → AreOperatorRows more left → ⊥
      by_more [] there = let nil : row ∷ later ≡ [] = sym some ∙ there.are in cc
      by_more (m ∷ ms) there =
          let both : row ∷ later ≡ row_of_operator m ∷ map row_of_operator ms = sym some ∙ there.are in
          let first : row ≡ row_of_operator m = cc in
          none m there.within.0 first
