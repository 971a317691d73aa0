-- Each CREATE of a desk's tables and indexes is refused only by memory and the disk.
use Rattle.std.proofs.Common.{◌≡◌, ◌≢◌, ◌≤◌, ◌<◌, ◌^◌, ◌*◌, ◌+◌, ◌==◌, ◌⊎◌, inl, inr, ℕ, true, false, List, [], ◌∷◌, length, map, None, Some, Option, Ok, Err, Result, IsTrue, refl, sym, ap, subst, ◌∙◌, true≢false, arith}
use Rattle.std.specs.Prelude.{codes, IsAscii, IsUtf8, nat_le, slice_get, zero, suc}
use Rattle.std.specs.List.{AllByRecursion, list_all}
use Rattle.std.proofs.lemmas.Bool.{and_parts, leb-true}
use Rattle.std.proofs.lemmas.Str.{IsUtf8-from_ascii}
use Rattle.std.specs.Float.{NotNan}
use Rattle.std.specs.Float.Ieee
use Rattle.sqlite.specs.declared.types.Value.{Value}
use Rattle.sqlite.specs.declared.types.Value.TheVariants.{Null, Int, Real, Text, Blob}
use Rattle.sqlite.specs.declared.error.Error.{Error}
use Rattle.sqlite.specs.Order.{Row}
use Rattle.sqlite_value.specs.Order.{number, bytes, value_cmp}
use Rattle.sqlite.specs.Tree.{Trees, rowid}
use Rattle.sqlite.specs.View.{is_int}
use Rattle.sqlite.specs.Schema.{Schema}
use Rattle.sqlite.specs.Table.{Table}
use Rattle.sqlite.specs.Command.{Command}
use Rattle.sqlite.specs.Command.TheVariants.{CreateTable, CreateIndex}
use Rattle.sqlite.specs.Effect.{Database}
use Rattle.sqlite.specs.Does.{Does, lacks_sequence, MakesTable as TableMade, MakesIndex as IndexMade, MakesSequence}
use Rattle.sqlite.specs.Rows.{Then}
use Rattle.sqlite.specs.State.{ExecutesInside, HasCleanDisk, text_of}
use Rattle.sqlite.specs.Store.{Ghosts}
use Rattle.sqlite.specs.Held.{Held, state}
use Rattle.sqlite.specs.Listing.{understood}
use Rattle.sqlite.proofs.Callers.{command_of, statement_of}
use Rattle.sqlite_trees.specs.Sound.{begins, fits_kind, is_free_name, same_name}
use Rattle.sqlite_trees.specs.View.{IsStorable}
use Rattle.sqlite_rules.specs.Lists.{Has}
use Rattle.sqlite_sql.specs.Catalog.{entry_of}
use Rattle.sqlite_schema.specs.Rules.{table_reals, index_reals, Keeps}
use Rattle.sqlite_schema.specs.declared.schema.Index.{Index}
use Rattle.sqlite_schema.specs.declared.schema.Constraint.TheVariants.{Unique}
use Rattle.sqlite_catalog.specs.Change.{automatics, created, indexed, is_reserved, is_used, next_tree}
use Rattle.sqlite_catalog.specs.Listing.{is_fit, is_formed}
use Rattle.sqlite_catalog.specs.Calls.{RefusesTable, RefusesIndex}
use Rattle.sqlite_catalog.specs.declared.error.Refusal.{Refusal}
use Rattle.sqlite_catalog.specs.declared.error.Refusal.TheVariants.{Invalid, NameTaken, BadName, TooBig, BadKey, BadText, Violates}
use Rattle.sqlite_resolve.specs.Compile.{table_defined_by, index_defined_by}
use Rattle.sqlite_resolve.specs.declared.compiled.Compiled.{Compiled}
use Rattle.sqlite_resolve.specs.declared.error.CompileError.{CompileError}
use Rattle.sqlite_tied.specs.Compute.{everything}
use Rattle.desk_sql.specs.declared.opening.finding.TablesPresent.{TablesPresent}
use Rattle.desk_sql.specs.declared.opening.finding.TablesPresent.TheVariants.{Nothing, Operators, Plans, OldVolumes, OldSpans, OldIndex, Volumes, Spans, All}
use Rattle.desk_sql.specs.declared.opening.numbers.DeskTable.TheVariants as desk
use Rattle.desk_sql.specs.Schema.{schema_of, blank_schema, operator_schema, plan_schema, old_volume_schema, old_table_schema, old_schema, volume_schema, table_schema, operator_table, plan_table, old_volume_table, old_span_table, old_span_made, old_span_first, volume_table, span_table, span_made, span_first}
use Rattle.desk_sql.specs.Rows.{columns, tables_at}
use Rattle.desk_sql.specs.Statements.{Extends, enforced, IsRefusal}
use Rattle.desk_sql.specs.Changing.{left_to_make, IsWholeIn, MayStop, IsSmall, AreSmall, HasSmallSpans, IsStep}
use Rattle.desk_sql.proofs.lemmas.Texts.{operator_text, plan_text, old_volume_text, old_span_text, old_leaf_index_text, volume_text, span_text, leaf_index_text}
use Rattle.desk_sql.proofs.lemmas.Write.{same_value}
use Rattle.desk_sql.proofs.lemmas.Stop.{caused_inside, names_in, tail_of, whole_in}
use Rattle.desk_sql.proofs.lemmas.Rowid.{refusal_on}
use Rattle.desk_sql.proofs.lemmas.Size.{blob, storable, text, whole}
use Rattle.desk_sql.proofs.CreateLemmas.{alone, HasGrown, MakesTable, MakesIndex, operator_makes, plan_makes, old_volume_makes, old_span_makes, old_first_makes, volume_makes, span_makes, first_makes, operator_extends, plan_extends, old_volume_extends, old_span_extends, old_first_extends, volume_extends, span_extends, first_extends}

-- what holds of some value that a reading gives holds of that which it gives
pub only : {A E : Type 0} (r : Result A E) (a : A) (P : A → Type 0) → r ≡ Ok a
    → ((x : A) × (r ≡ Ok x) × P x) → P a
only r a P is h = subst P (same_value (sym h.1 ∙ is)) h.2

-- bytes of ASCII are UTF-8
are_ascii : (bs : List ℕ) → list_all (λ b. nat_le b 127) bs ≡ true → IsAscii bs
are_ascii [] h i = omega arith
are_ascii (b ∷ bs) h zero = let low = leb-true b 127 (and_parts _ _ h).0 in omega (arith, low)
are_ascii (b ∷ bs) h (suc i) = are_ascii bs (and_parts (nat_le b 127) _ h).1 i

read_ascii : (bs : List ℕ) → list_all (λ b. nat_le b 127) bs ≡ true → IsUtf8 bs
read_ascii bs h = IsUtf8-from_ascii bs (are_ascii bs h)

-- a text that is this command stops where the command does
pub stop_at : (sql : List ℕ) (r : Result Compiled CompileError) (limit : Option ℕ) (old : Database)
    (stop : Option Error) (command : Command) → command_of r ≡ command → MayStop sql r [] limit old stop
    → Does limit enforced [] old (statement_of sql r) None command (Err stop)
stop_at sql (Ok c) limit old stop command is h =
    subst (λ k. Does limit enforced [] old (text_of sql c) None k (Err stop)) is h
stop_at sql (Err e) limit old stop command is h = absurd h

-- ---- the tables

-- a text that makes this table, whose names are free, and which is neither too large nor odd
pub record IsFreeTable (schema : Schema) (sql : List ℕ) (table : Table) : Type 0 where
  pub makes : MakesTable schema sql table
  pub read : IsUtf8 sql
  pub named : IsUtf8 table.name
  pub free : is_used schema table.name ≡ false
  pub frees : (index : Index) → Has (automatics table 0 0 table.uniques) index
      → is_used schema index.name ≡ false
  pub unreserved : is_reserved table.name ≡ false
  pub few : next_tree schema + length table.uniques < 65536
  pub whole : table_reals table ≡ 0
  pub keys : (key : List ℕ) → Has table.uniques key → index_reals (table_reals table) key ≡ 0
  pub formed : is_formed table ≡ true
  pub fits : is_fit (Text (codes "table")) (Text table.name) (Text table.name) (Text sql) ≡ true
  pub short : 2 * length table.name + length sql + 200 < 10 ^ 9
  pub given : 0 ≡ names_in (understood schema sql)
  pub all : length sql ≤ tail_of (understood schema sql)

module _ (schema : Schema) (sql : List ℕ) (table : Table) (known : IsFreeTable schema sql table) where
  defined : table_defined_by sql ≡ Ok table
  defined = known.makes.defined

  one : (P : Table → Type 0) → ((t : Table) × (table_defined_by sql ≡ Ok t) × P t) → P table
  one P h = only (table_defined_by sql) table P defined h

  taken : (t : (is_used schema table.name ≡ true) ⊎ ((index : Index)
      × Has (automatics table 0 0 table.uniques) index × (is_used schema index.name ≡ true))) → ⊥
  taken (inl used) = true≢false (sym used ∙ known.free)
  taken (inr (index, there, used)) = true≢false (sym used ∙ known.frees index there)

  bad : (h : (¬ IsUtf8 table.name) ⊎ ((is_reserved table.name ≡ true)
      × ((length table.uniques == 0) ≡ false))) → ⊥
  bad (inl odd) = odd known.named
  bad (inr (own, _)) = true≢false (sym own ∙ known.unreserved)

  big : (h : (65536 ≤ next_tree schema + length table.uniques) ⊎ ((2 ^ 64 ≤ table_reals table)
      ⊎ ((key : List ℕ) × Has table.uniques key × (2 ^ 64 ≤ index_reals (table_reals table) key)))) → ⊥
  big (inl many) = omega (arith, many, known.few)
  big (inr (inl real)) = omega (arith, real, known.whole)
  big (inr (inr (key, there, real))) =
      let none = known.keys key there in omega (arith, real, none)

  never_refused : (reason : Refusal) → ¬ RefusesTable schema sql reason
  never_refused (Invalid e) h = absurd (let wrong = sym defined ∙ h in cc)
  never_refused NameTaken h = taken (one (λ t. (is_used schema t.name ≡ true) ⊎ ((index : Index)
      × Has (automatics t 0 0 t.uniques) index × (is_used schema index.name ≡ true))) h)
  never_refused BadName h = bad (one (λ t. (¬ IsUtf8 t.name) ⊎ ((is_reserved t.name ≡ true)
      × ((length t.uniques == 0) ≡ false))) h)
  never_refused TooBig h = big (one (λ t. (65536 ≤ next_tree schema + length t.uniques)
      ⊎ ((2 ^ 64 ≤ table_reals t)
      ⊎ ((key : List ℕ) × Has t.uniques key × (2 ^ 64 ≤ index_reals (table_reals t) key)))) h)
  never_refused BadKey h =
      true≢false (sym known.formed ∙ one (λ t. is_formed t ≡ false) h)
  never_refused BadText h =
      true≢false (sym known.fits ∙ one (λ t. is_fit (Text (codes "table")) (Text t.name) (Text t.name)
      (Text sql) ≡ false) h)
  never_refused (Violates rule) h = h

  never_made : (db : Database) (stop : Option Error) → db.schema ≡ schema → ¬ TableMade sql db (Err stop)
  never_made db None has h =
      let long = one (λ t. 10 ^ 9 ≤ 2 * length t.name + length sql + 200) h in
      omega (arith, long, known.short)
  never_made db (Some e) has (inl odd) = odd.0 known.read
  never_made db (Some e) has (inr (reason, refused, is)) =
      never_refused reason (subst (λ s. RefusesTable s sql reason) has refused)

  never_steps : (db : Database) (stop : Option Error) → db.schema ≡ schema
      → ¬ Then (TableMade sql db) MakesSequence (Err stop)
  never_steps db stop has (inl (s, h, is)) = never_made db s has h
  never_steps db stop has (inr (mid, h, next)) =
      let same : h.table ≡ table = same_value (sym h.defined ∙ defined) in
      let schema_is : mid.schema ≡ created schema table = h.is
      ∙ ap (λ s. created s h.table) has ∙ ap (created schema) same in
      let plain : lacks_sequence mid.schema ≡ false = ap lacks_sequence schema_is ∙ known.makes.uncounted in
      absurd (let end = rw plain at next in cc)

  pub table_never : (limit : Option ℕ) (db : Database) (stop : Option Error) → db.schema ≡ schema
      → ¬ MayStop sql (understood schema sql) [] limit db stop
  table_never limit db stop has h =
      let did = subst (λ t. Does limit enforced [] db t None CreateTable (Err stop)) known.makes.whole
      (stop_at sql (understood schema sql) limit db stop CreateTable known.makes.is h) in
      elim did [
        | inl stopped ↦ never_steps db stopped.0 has stopped.1
        | inr done ↦ absurd (let end = done.2 in cc)
      ]

step_by_table : (made next : TablesPresent) (sql : List ℕ) (table : Table) → left_to_make made ≢ 0
    → IsFreeTable (schema_of made) sql table
    → Extends sql made next → IsStep sql made next
step_by_table made next sql table lacks known extends = record {
  extends = extends;
  means = whole_in sql 0 (understood (schema_of made) sql) CreateTable known.makes.is known.makes.plain tt
      known.given known.all;
  never = λ limit db stop was sound small.
      table_never (schema_of made) sql table known limit db stop (alone made db.schema lacks was.schema);
}

operator_free : IsFreeTable blank_schema operator_text operator_table
unfolding understood everything fits_kind is_free_name begins same_name value_cmp Ieee.is_nan Ieee.lt
operator_free = record {
  makes = operator_makes;
  read = read_ascii operator_text refl;
  named = read_ascii operator_table.name refl;
  free = refl;
  frees = λ index there. elim there [
    | inl is ↦ subst (λ (i : Index). is_used blank_schema i.name ≡ false) (sym is) refl
    | inr none ↦ absurd none
  ];
  unreserved = refl;
  few = omega arith;
  whole = refl;
  keys = λ key there. elim there [
    | inl is ↦ subst (λ k. index_reals (table_reals operator_table) k ≡ 0) (sym is) refl
    | inr none ↦ absurd none
  ];
  formed = refl;
  fits = refl;
  short = omega arith;
  given = refl;
  all = omega arith;
}

pub operator_step : IsStep operator_text Nothing Operators
operator_step = step_by_table Nothing Operators operator_text operator_table (λ none. cc) operator_free
    operator_extends

plan_free : IsFreeTable operator_schema plan_text plan_table
unfolding understood everything fits_kind is_free_name begins same_name value_cmp Ieee.is_nan Ieee.lt
plan_free = record {
  makes = plan_makes;
  read = read_ascii plan_text refl;
  named = read_ascii plan_table.name refl;
  free = refl;
  frees = λ index there. elim there [
    | inl is ↦ subst (λ (i : Index). is_used operator_schema i.name ≡ false) (sym is) refl
    | inr none ↦ absurd none
  ];
  unreserved = refl;
  few = omega arith;
  whole = refl;
  keys = λ key there. elim there [
    | inl is ↦ subst (λ k. index_reals (table_reals plan_table) k ≡ 0) (sym is) refl
    | inr none ↦ absurd none
  ];
  formed = refl;
  fits = refl;
  short = omega arith;
  given = refl;
  all = omega arith;
}

pub plan_step : IsStep plan_text Operators Plans
plan_step = step_by_table Operators Plans plan_text plan_table (λ none. cc) plan_free plan_extends

old_volume_free : IsFreeTable plan_schema old_volume_text old_volume_table
unfolding understood everything fits_kind is_free_name begins same_name value_cmp Ieee.is_nan Ieee.lt
old_volume_free = record {
  makes = old_volume_makes;
  read = read_ascii old_volume_text refl;
  named = read_ascii old_volume_table.name refl;
  free = refl;
  frees = λ index there. elim there [
    | inl is ↦ subst (λ (i : Index). is_used plan_schema i.name ≡ false) (sym is) refl
    | inr none ↦ absurd none
  ];
  unreserved = refl;
  few = omega arith;
  whole = refl;
  keys = λ key there. elim there [
    | inl is ↦ subst (λ k. index_reals (table_reals old_volume_table) k ≡ 0) (sym is) refl
    | inr none ↦ absurd none
  ];
  formed = refl;
  fits = refl;
  short = omega arith;
  given = refl;
  all = omega arith;
}

pub old_volume_step : IsStep old_volume_text Plans OldVolumes
old_volume_step =
    step_by_table Plans OldVolumes old_volume_text old_volume_table (λ none. cc) old_volume_free
    old_volume_extends

old_span_free : IsFreeTable old_volume_schema old_span_text old_span_table
unfolding understood everything fits_kind is_free_name begins same_name value_cmp Ieee.is_nan Ieee.lt
old_span_free = record {
  makes = old_span_makes;
  read = read_ascii old_span_text refl;
  named = read_ascii old_span_table.name refl;
  free = refl;
  frees = λ index there. elim there [
    | inl is ↦ subst (λ (i : Index). is_used old_volume_schema i.name ≡ false) (sym is) refl
    | inr none ↦ absurd none
  ];
  unreserved = refl;
  few = omega arith;
  whole = refl;
  keys = λ key there. elim there [
    | inl is ↦ subst (λ k. index_reals (table_reals old_span_table) k ≡ 0) (sym is) refl
    | inr none ↦ absurd none
  ];
  formed = refl;
  fits = refl;
  short = omega arith;
  given = refl;
  all = omega arith;
}

pub old_span_step : IsStep old_span_text OldVolumes OldSpans
old_span_step = step_by_table OldVolumes OldSpans old_span_text old_span_table (λ none. cc) old_span_free
    old_span_extends

volume_free : IsFreeTable old_schema volume_text volume_table
unfolding understood everything fits_kind is_free_name begins same_name value_cmp Ieee.is_nan Ieee.lt
volume_free = record {
  makes = volume_makes;
  read = read_ascii volume_text refl;
  named = read_ascii volume_table.name refl;
  free = refl;
  frees = λ index there. elim there [
    | inl is ↦ subst (λ (i : Index). is_used old_schema i.name ≡ false) (sym is) refl
    | inr none ↦ absurd none
  ];
  unreserved = refl;
  few = omega arith;
  whole = refl;
  keys = λ key there. elim there [
    | inl is ↦ subst (λ k. index_reals (table_reals volume_table) k ≡ 0) (sym is) refl
    | inr none ↦ absurd none
  ];
  formed = refl;
  fits = refl;
  short = omega arith;
  given = refl;
  all = omega arith;
}

pub volume_step : IsStep volume_text OldIndex Volumes
volume_step = step_by_table OldIndex Volumes volume_text volume_table (λ none. cc) volume_free volume_extends

span_free : IsFreeTable volume_schema span_text span_table
unfolding understood everything fits_kind is_free_name begins same_name value_cmp Ieee.is_nan Ieee.lt
span_free = record {
  makes = span_makes;
  read = read_ascii span_text refl;
  named = read_ascii span_table.name refl;
  free = refl;
  frees = λ index there. elim there [
    | inl is ↦ subst (λ (i : Index). is_used volume_schema i.name ≡ false) (sym is) refl
    | inr none ↦ absurd none
  ];
  unreserved = refl;
  few = omega arith;
  whole = refl;
  keys = λ key there. elim there [
    | inl is ↦ subst (λ k. index_reals (table_reals span_table) k ≡ 0) (sym is) refl
    | inr none ↦ absurd none
  ];
  formed = refl;
  fits = refl;
  short = omega arith;
  given = refl;
  all = omega arith;
}

pub span_step : IsStep span_text Volumes Spans
span_step = step_by_table Volumes Spans span_text span_table (λ none. cc) span_free span_extends

-- ---- the indexes

-- a text that makes this index, whose name is free, and which is neither too large nor odd
pub record IsFreeIndex (schema : Schema) (sql : List ℕ) (at : ℕ) (table : Table) (index : Index) : Type 0
  where
    pub makes : MakesIndex schema sql at table index
    pub read : IsUtf8 sql
    pub named : IsUtf8 index.name
    pub on : IsUtf8 table.name
    pub free : is_used schema index.name ≡ false
    pub unreserved : is_reserved index.name ≡ false
    pub few : next_tree schema < 65536
    pub whole : table_reals table ≡ 0
    pub columns : index_reals (table_reals table) index.columns ≡ 0
    pub fits : is_fit (Text (codes "index")) (Text index.name) (Text table.name) (Text sql) ≡ true
    pub short : length index.name + length table.name + length sql + 200 < 10 ^ 9
    pub shared : (db : Trees) → Keeps Unique schema db → Keeps Unique (indexed schema table index) db
    pub given : 0 ≡ names_in (understood schema sql)
    pub all : length sql ≤ tail_of (understood schema sql)

module _ (schema : Schema) (sql : List ℕ) (at : ℕ) (table : Table) (index : Index)
    (known : IsFreeIndex schema sql at table index) where
  is_index : index_defined_by table sql ≡ Ok index
  is_index = known.makes.defined

  just : (P : Index → Type 0) → ((i : Index) × (index_defined_by table sql ≡ Ok i) × P i) → P index
  just P h = only (index_defined_by table sql) index P is_index h

  misnamed : (h : ((¬ IsUtf8 index.name) ⊎ ((is_reserved index.name ≡ true) × (false ≡ false)))
      ⊎ (¬ IsUtf8 table.name)) → ⊥
  misnamed (inl (inl odd)) = odd known.named
  misnamed (inl (inr (own, _))) = true≢false (sym own ∙ known.unreserved)
  misnamed (inr odd) = odd known.on

  large : (h : (65536 ≤ next_tree schema) ⊎ ((2 ^ 64 ≤ table_reals table)
      ⊎ (2 ^ 64 ≤ index_reals (table_reals table) index.columns))) → ⊥
  large (inl many) = omega (arith, many, known.few)
  large (inr (inl real)) = omega (arith, real, known.whole)
  large (inr (inr real)) = omega (arith, real, known.columns)

  module _ (db : Database) (has : db.schema ≡ schema) (keeps : Keeps Unique schema db.trees)
      (stored : (row : Row) → Has (db.trees table.tree) row
      → IsStorable (index_reals (table_reals table) index.columns) (entry_of index.columns row)) where
    index_refused : (reason : Refusal) → ¬ RefusesIndex schema db.trees table sql reason
    index_refused (Invalid e) h = absurd (let wrong = sym is_index ∙ h in cc)
    index_refused NameTaken h =
        true≢false (sym (just (λ i. is_used schema i.name ≡ true) h) ∙ known.free)
    index_refused BadName h = misnamed (just (λ i. ((¬ IsUtf8 i.name)
        ⊎ ((is_reserved i.name ≡ true) × (false ≡ false))) ⊎ (¬ IsUtf8 table.name)) h)
    index_refused TooBig h = large (just (λ i. (65536 ≤ next_tree schema) ⊎ ((2 ^ 64 ≤ table_reals table)
        ⊎ (2 ^ 64 ≤ index_reals (table_reals table) i.columns))) h)
    index_refused BadKey h = h
    index_refused BadText h =
        true≢false (sym known.fits ∙ just (λ i. is_fit (Text (codes "index")) (Text i.name) (Text table.name)
        (Text sql) ≡ false) h)
    index_refused (Violates rule) h =
        let same : h.0 ≡ index = same_value (sym h.1 ∙ is_index) in
        h.3 (subst (λ i. Keeps Unique (indexed schema table i) db.trees) (sym same)
        (known.shared db.trees keeps))

    unstorable : (h : (10 ^ 9 ≤ length index.name + length table.name + length sql + 200)
        ⊎ ((row : Row) × Has (db.trees table.tree) row
        × (¬ IsStorable (index_reals (table_reals table) index.columns) (entry_of index.columns row)))) → ⊥
    unstorable (inl long) = omega (arith, long, known.short)
    unstorable (inr (row, there, big)) = big (stored row there)

    index_made : (stop : Option Error) → ¬ IndexMade sql db table (Err stop)
    index_made None h = unstorable (just (λ i. (10 ^ 9 ≤ length i.name + length table.name + length sql + 200)
        ⊎ ((row : Row) × Has (db.trees table.tree) row
        × (¬ IsStorable (index_reals (table_reals table) i.columns) (entry_of i.columns row)))) h)
    index_made (Some e) (inl odd) = odd.0 known.read
    index_made (Some e) (inr (reason, refused, is)) =
        index_refused reason (subst (λ s. RefusesIndex s db.trees table sql reason) has refused)

    pub index_never : (limit : Option ℕ) (stop : Option Error)
        → ¬ MayStop sql (understood schema sql) [] limit db stop
    index_never limit stop h =
        let did = subst (λ t. Does limit enforced [] db t None (CreateIndex at) (Err stop)) known.makes.whole
        (stop_at sql (understood schema sql) limit db stop (CreateIndex at) known.makes.is h) in
        let there = ap (λ (s : Schema). slice_get s.tables at) has
        ∙ known.makes.there in
        elim (rw there at did) [
          | inl stopped ↦ index_made stopped.0 stopped.1
          | inr done ↦ absurd (let end = done.2 in cc)
        ]

-- ---- the entries of spans

not_nan : (v : Value) → IsSmall v → NotNan (number v)
unfolding Ieee.is_nan
not_nan Null h = tt
not_nan (Int n) h = whole n
not_nan (Real x) h = absurd h
not_nan (Text t) h = text t
not_nan (Blob b) h = blob b

few_bytes : (v : Value) → IsSmall v → length (bytes v) ≤ 10 ^ 8
few_bytes Null h = omega arith
few_bytes (Int n) h = omega arith
few_bytes (Real x) h = absurd h
few_bytes (Text t) h = h
few_bytes (Blob b) h = h

rowid_number : (v : Value) → is_int v ≡ true → NotNan (number v) × (length (bytes v) ≡ 0)
rowid_number Null h = absurd (true≢false (sym h))
rowid_number (Int n) h = (whole n, refl)
rowid_number (Real x) h = absurd (true≢false (sym h))
rowid_number (Text t) h = absurd (true≢false (sym h))
rowid_number (Blob b) h = absurd (true≢false (sym h))

of_shown : {A : Type 0} (P : A → Type 0) (f : Row → A) (rows : List Row)
    → AllByRecursion P (map f rows) → (row : Row) → Has rows row → P (f row)
of_shown P f [] all row there = absurd there
of_shown P f (r ∷ rows) all row (inl is) = subst (λ r. P (f r)) (sym is) all.0
of_shown P f (r ∷ rows) all row (inr there) = of_shown P f rows all.1 row there

of_rows : (P : Row → Type 0) (rows : List Row) → AllByRecursion P rows → (row : Row) → Has rows row → P row
of_rows P [] all row there = absurd there
of_rows P (r ∷ rows) all row (inl is) = subst P (sym is) all.0
of_rows P (r ∷ rows) all row (inr there) = of_rows P rows all.1 row there

abbrev leaf_columns : List ℕ
leaf_columns = 4 ∷ 5 ∷ 6 ∷ 7 ∷ 8 ∷ 9 ∷ 10 ∷ 1 ∷ 2 ∷ []

-- the entry of a row of spans in the index over leaves
leaf_entry : (row : Row) → AllByRecursion IsSmall (columns 10 row) → is_int (rowid row) ≡ true
    → IsStorable 0 (entry_of leaf_columns row)
leaf_entry row (s1, (s2, (s3, (s4, (s5, (s6, (s7, (s8, (s9, (s10, _)))))))))) is =
    let last = rowid_number (rowid row) is in
    storable (entry_of leaf_columns row) (omega arith) (omega arith) (
      not_nan _ s4,
      (
        not_nan _ s5,
        (
          not_nan _ s6,
          (
            not_nan _ s7,
            (
              not_nan _ s8,
              (
                not_nan _ s9,
                (not_nan _ s10, (not_nan _ s1, (not_nan _ s2, (last.0, tt)))),
              ),
            ),
          ),
        ),
      ),
    ) (omega (
      arith,
      few_bytes _ s4,
      few_bytes _ s5,
      few_bytes _ s6,
      few_bytes _ s7,
      few_bytes _ s8,
      few_bytes _ s9,
      few_bytes _ s10,
      few_bytes _ s1,
      few_bytes _ s2,
      last.1,
    ))

all_entries : (rows : List Row) → AreSmall (map (columns 10) rows)
    → AllByRecursion (λ r. is_int (rowid r) ≡ true) rows → (row : Row) → Has rows row
    → IsStorable 0 (entry_of leaf_columns row)
all_entries rows small numbered row there =
    leaf_entry row (of_shown (λ r. AllByRecursion IsSmall r) (columns 10) rows small row there)
    (of_rows (λ r. is_int (rowid r) ≡ true) rows numbered row there)

old_first_free : IsFreeIndex old_table_schema old_leaf_index_text 3 old_span_made old_span_first
unfolding understood everything fits_kind is_free_name begins same_name value_cmp Ieee.is_nan Ieee.lt
old_first_free = record {
  makes = old_first_makes;
  read = read_ascii old_leaf_index_text refl;
  named = read_ascii old_span_first.name refl;
  on = read_ascii old_span_made.name refl;
  free = refl;
  unreserved = refl;
  few = omega arith;
  whole = refl;
  columns = refl;
  fits = refl;
  short = omega arith;
  shared = λ db keeps. keeps;
  given = refl;
  all = omega arith;
}

pub old_first_step : IsStep old_leaf_index_text OldSpans OldIndex
old_first_step = record {
  extends = old_first_extends;
  means = whole_in old_leaf_index_text 0 (understood old_table_schema old_leaf_index_text) (CreateIndex 3)
      old_first_makes.is old_first_makes.plain tt
      old_first_free.given old_first_free.all;
  never = λ limit db stop was sound small.
      index_never old_table_schema old_leaf_index_text 3 old_span_made old_span_first old_first_free db
      was.schema
      (subst (λ s. Keeps Unique s db.trees) was.schema (sound.obeys.rules Unique))
      (all_entries (db.trees old_span_made.tree) small.0 (was.rows desk.OldSpan refl).whole) limit stop;
}

first_free : IsFreeIndex table_schema leaf_index_text 5 span_made span_first
unfolding understood everything fits_kind is_free_name begins same_name value_cmp Ieee.is_nan Ieee.lt
first_free = record {
  makes = first_makes;
  read = read_ascii leaf_index_text refl;
  named = read_ascii span_first.name refl;
  on = read_ascii span_made.name refl;
  free = refl;
  unreserved = refl;
  few = omega arith;
  whole = refl;
  columns = refl;
  fits = refl;
  short = omega arith;
  shared = λ db keeps. keeps;
  given = refl;
  all = omega arith;
}

pub first_step : IsStep leaf_index_text Spans All
first_step = record {
  extends = first_extends;
  means = whole_in leaf_index_text 0 (understood table_schema leaf_index_text) (CreateIndex 5) first_makes.is
      first_makes.plain tt
      first_free.given first_free.all;
  never = λ limit db stop was sound small.
      index_never table_schema leaf_index_text 5 span_made span_first first_free db was.schema
      (subst (λ s. Keeps Unique s db.trees) was.schema (sound.obeys.rules Unique))
      (all_entries (db.trees span_made.tree) small.1 (was.rows desk.Span refl).whole) limit stop;
}

-- ---- a step in its turn

-- a step that is refused after others is refused for a cause since the start
pub step_refused : {S : Type 0} (g : Ghosts S) (made at next : TablesPresent) (old mid new : Held S)
    (sql : List ℕ)
    → left_to_make at ≢ 0 → IsStep sql at next → HasGrown g made at old mid → HasCleanDisk (state g mid)
    → IsTrue (state g mid).is_open → HasSmallSpans (tables_at made (state g old).now.trees) → (e : Error)
    → (IsTrue mid.in_transaction → ExecutesInside 0 sql [] (state g mid) (state g new) (Err e))
    → IsRefusal g old new e
step_refused g made at next old mid new sql lacks step grown clean live small e h =
    let now = grown.grown clean (inr live) in
    let schema = alone at (state g mid).now.schema lacks now.has.schema in
    let fits = subst HasSmallSpans (sym now.same) small in
    refusal_on g old mid new grown.remembered.faults grown.remembered.limit e
    (caused_inside sql [] (state g mid) (state g new) e live
    (λ stop stops. absurd (step.never (state g mid).step_limit (state g mid).now stop now.has now.sound fits
    (subst (λ s. MayStop sql (understood s sql) [] (state g mid).step_limit (state g mid).now stop)
    schema stops)))
    (subst (λ s. IsWholeIn sql 0 (understood s sql)) (sym schema) step.means) (h now.begun))
