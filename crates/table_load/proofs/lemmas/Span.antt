-- The rows of `span` held against plans, one after the other.
use Rattle.std.proofs.Common.{◌≡◌, ℕ, ◌+◌, Bool, true, false, MatchBool, List, [], ◌∷◌, map, refl, sym, subst}
use Rattle.std.specs.List.{AllByRecursion}
use Rattle.sqlite_value.specs.Order.{Row}
use Rattle.s2_cover.specs.declared.spans.Span.{Span}
use Rattle.volume4d.specs.Volume.{Block}
use Rattle.desk_rules.specs.Outcome.{is_live}
use Rattle.desk_store.specs.World.{Filed}
use Rattle.desk_store.proofs.lemmas.Order.{all_append}
use Rattle.row_codec.specs.Tables.{row_of_span, AreSpanRowsFrom, ArePlanSpanRows}
use Rattle.row_codec.proofs.lemmas.Order.{after_key}
use Rattle.row_codec.proofs.lemmas.Plan.{HasKey}

on_keyed : (p : Filed) (n : ℕ) (v : Block) (spans : List Span)
    → AllByRecursion (HasKey p) (map (row_of_span p n v) spans)
on_keyed p n v [] = tt
on_keyed p n v (s ∷ spans) = ((after_key (row_of_span p n v s), refl), on_keyed p n v spans)

from_keyed : (p : Filed) (n : ℕ) (vs : List Block) (rows : List Row) → AreSpanRowsFrom p n vs rows
    → AllByRecursion (HasKey p) rows
from_keyed p n [] rows e = subst (AllByRecursion (HasKey p)) (sym e) tt
from_keyed p n (v ∷ vs) rows (spans, rest, ranges, are, more) =
    subst (AllByRecursion (HasKey p)) (sym are) (all_append (HasKey p) (map (row_of_span p n v) spans) rest
    (on_keyed p n v spans) (from_keyed p (n + 1) vs rest more))

pub spans_keyed : (p : Filed) (rows : List Row) → ArePlanSpanRows p rows
    → AllByRecursion (HasKey p) rows
spans_keyed p rows are = by_live (is_live p.row.usage) are where
  by_live : (b : Bool) → MatchBool b (AreSpanRowsFrom p 0 p.row.area rows) (rows ≡ [])
      → AllByRecursion (HasKey p) rows
  by_live true k = from_keyed p 0 p.row.area rows k
  by_live false k = subst (AllByRecursion (HasKey p)) (sym k) tt
