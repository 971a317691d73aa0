-- The schema of the database, and the forms by which the program describes its tables and indexes.
use Rattle.std.specs.Prelude.{true, false, [], ◌∷◌, List, ℕ, Bool, None, codes, ◌≡◌, ◌+◌, map, not, ◌&&◌, ◌++◌, drop, nat_lt}
use Rattle.std.specs.List.{list_all, list_any}
use Rattle.sqlite.specs.{Collation.TheVariants.Binary, Table.Table, Schema.Schema, Kind.Kind, Kind.TheVariants.Integer, Kind.TheVariants.Text, Kind.TheVariants.Blob, Effect.Database, declared.types.Value.TheVariants.Null}
use Rattle.sqlite_schema.specs.{declared.schema.Action.TheVariants.NoAction, declared.schema.Action.TheVariants.Cascade, declared.schema.Column.Column, declared.schema.Index.Index, declared.schema.Reference.Reference, declared.schema.Stamps.Stamps, declared.schema.View.View, Names.same_name}
use Rattle.sqlite_value.specs.Keys.{plain}
use Rattle.sqlite_catalog.specs.Change.{created, indexed}
use Rattle.desk_sql.specs.declared.opening.{finding.TablesPresent.TablesPresent, finding.TablesPresent.TheVariants.Nothing, finding.TablesPresent.TheVariants.Operators, finding.TablesPresent.TheVariants.Plans, finding.TablesPresent.TheVariants.OldVolumes, finding.TablesPresent.TheVariants.OldSpans, finding.TablesPresent.TheVariants.OldIndex, finding.TablesPresent.TheVariants.Volumes, finding.TablesPresent.TheVariants.Spans, finding.TablesPresent.TheVariants.All, finding.TablesPresent.TheVariants.Packed, numbers.DeskTable.DeskTable, objects.ColumnForm.ColumnForm, objects.ReferenceForm.ReferenceForm, objects.TableForm.TableForm, objects.DeskObject.DeskObject}
use Rattle.desk_sql.specs.declared.opening.numbers.DeskTable.TheVariants as desk
use Rattle.desk_sql.specs.declared.opening.objects.ColumnForm.TheVariants as column
use Rattle.desk_sql.specs.declared.opening.objects.DeskObject.TheVariants as object

-- ==== The schema of the database, version 2
-- Version 1 is what there is of it up to the index `span_first`, with its rows in `volume` and `span`, which
-- are empty in version 2: they stay, so that a file of version 1 grows to this schema.

-- a column of a STRICT table, which takes no NULL, has no default and is compared by its bytes
abbrev pub column_of : List ℕ → Kind → Column
column_of name kind = record {
  name = name;
  kind = kind;
  is_strict = true;
  not_null = true;
  default = Null;
  collation = Binary;
}

-- a STRICT table whose primary key are the columns with the numbers `key`, counted from 1
abbrev pub table_of : List ℕ → List Column → List ℕ → List Reference → Table
table_of name columns key references = record {
  name = name;
  tree = 0;
  columns = columns;
  key = None;
  primary = key;
  uniques = key ∷ [];
  orders = plain ∷ [];
  checks = [];
  references = references;
  computed = [];
  stamps = record { places = []; terms = []; formats = [] };
  is_counted = false;
}

abbrev pub operator_table : Table
operator_table = table_of (codes "operator")
    (column_of (codes "name") Text ∷ column_of (codes "ceiling") Integer ∷ []) (1 ∷ []) []

abbrev pub to_operator : Reference
to_operator = record {
  columns = 1 ∷ [];
  parent = codes "operator";
  parent_columns = codes "name" ∷ [];
  on_delete = NoAction;
  on_update = NoAction;
  is_deferred = false;
}

-- a plan's volumes and spans go with the plan
abbrev pub to_plan : Reference
to_plan = record {
  columns = 1 ∷ 2 ∷ [];
  parent = codes "plan";
  parent_columns = codes "operator" ∷ codes "id" ∷ [];
  on_delete = Cascade;
  on_update = NoAction;
  is_deferred = false;
}

abbrev pub plan_table : Table
plan_table = table_of (codes "plan")
    (column_of (codes "operator") Text ∷ column_of (codes "id") Text ∷ column_of (codes "priority") Integer
    ∷ column_of (codes "usage") Integer ∷ column_of (codes "aircraft") Integer ∷ [])
    (1 ∷ 2 ∷ []) (to_operator ∷ [])

-- version 1's volumes
abbrev pub old_volume_table : Table
old_volume_table = table_of (codes "volume")
    (column_of (codes "operator") Text ∷ column_of (codes "id") Text ∷ column_of (codes "place") Integer
    ∷ column_of (codes "lower") Integer ∷ column_of (codes "upper") Integer
    ∷ column_of (codes "start") Integer ∷ column_of (codes "stop") Integer ∷ column_of (codes "asked") Blob
    ∷ [])
    (1 ∷ 2 ∷ 3 ∷ []) (to_plan ∷ [])

-- version 1's spans
abbrev pub old_span_table : Table
old_span_table = table_of (codes "span")
    (column_of (codes "operator") Text ∷ column_of (codes "id") Text ∷ column_of (codes "place") Integer
    ∷ column_of (codes "first") Integer ∷ column_of (codes "last") Integer
    ∷ column_of (codes "lower") Integer ∷ column_of (codes "upper") Integer
    ∷ column_of (codes "start") Integer ∷ column_of (codes "stop") Integer
    ∷ column_of (codes "priority") Integer ∷ [])
    (1 ∷ 2 ∷ 3 ∷ 4 ∷ []) (to_plan ∷ [])

abbrev pub volume_table : Table
volume_table = table_of (codes "volume2")
    (column_of (codes "operator") Text ∷ column_of (codes "id") Text ∷ column_of (codes "place") Integer
    ∷ column_of (codes "lower") Integer ∷ column_of (codes "upper") Integer
    ∷ column_of (codes "start") Integer ∷ column_of (codes "stop") Integer ∷ column_of (codes "asked") Blob
    ∷ column_of (codes "canon") Blob ∷ [])
    (1 ∷ 2 ∷ 3 ∷ []) (to_plan ∷ [])

abbrev pub span_table : Table
span_table = table_of (codes "span2")
    (column_of (codes "operator") Text ∷ column_of (codes "id") Text ∷ column_of (codes "place") Integer
    ∷ column_of (codes "first") Integer ∷ column_of (codes "last") Integer
    ∷ column_of (codes "lower") Integer ∷ column_of (codes "upper") Integer
    ∷ column_of (codes "start") Integer ∷ column_of (codes "stop") Integer
    ∷ column_of (codes "priority") Integer ∷ [])
    (1 ∷ 2 ∷ 3 ∷ 4 ∷ []) (to_plan ∷ [])

-- no table, index or view
abbrev pub blank_schema : Schema
blank_schema = record { tables = []; indexes = []; views = [] }

-- the tables made in this order: `operator` is tree 0, `plan` 2, `volume` 4, `span` 6, `volume2` 9 and
-- `span2` 11. Their keys' indexes are trees 1, 3, 5, 7, 10 and 12; those over the leaves of spans 8 and 13
abbrev pub operator_schema : Schema
operator_schema = created blank_schema operator_table

abbrev pub plan_schema : Schema
plan_schema = created operator_schema plan_table

abbrev pub old_volume_schema : Schema
old_volume_schema = created plan_schema old_volume_table

abbrev pub old_table_schema : Schema
old_table_schema = created old_volume_schema old_span_table

-- the index over the leaves of spans, in the table with the b-tree `table`. Its columns are `first`, `last`,
-- `lower`, `upper`, `start`, `stop`, `priority`, `operator` and `id`: all that the query of rivals reads
abbrev pub leaf_index_of : List ℕ → ℕ → Index
leaf_index_of name table = record {
  name = name;
  tree = 0;
  table = table;
  columns = 4 ∷ 5 ∷ 6 ∷ 7 ∷ 8 ∷ 9 ∷ 10 ∷ 1 ∷ 2 ∷ [];
  order = plain;
  is_unique = false;
}

abbrev pub old_span_first : Index
old_span_first = leaf_index_of (codes "span_first") 6

-- `span` as it stands among the tables
abbrev pub old_span_made : Table
old_span_made = record old_span_table { tree = 6 }

-- version 1: its tables, and its index, which is tree 8
abbrev pub old_schema : Schema
old_schema = indexed old_table_schema old_span_made old_span_first

abbrev pub volume_schema : Schema
volume_schema = created old_schema volume_table

abbrev pub table_schema : Schema
table_schema = created volume_schema span_table

abbrev pub span_first : Index
span_first = leaf_index_of (codes "span2_first") 11

-- `span2` as it stands among the tables
abbrev pub span_made : Table
span_made = record span_table { tree = 11 }

-- all tables, and both indexes
abbrev pub desk_schema : Schema
desk_schema = indexed table_schema span_made span_first

-- ---- a packed file: its tables come first, then the indexes, as SQLite lists them when it writes a database
-- anew (VACUUM, VACUUM INTO, or a file restored from a dump). So `volume2` is tree 8 there, `span2` tree 10
abbrev pub packed_volume_schema : Schema
packed_volume_schema = created old_table_schema volume_table

abbrev pub packed_table_schema : Schema
packed_table_schema = created packed_volume_schema span_table

-- `span2` as it stands in a packed file
abbrev pub packed_span_made : Table
packed_span_made = record span_table { tree = 10 }

abbrev pub packed_schema : Schema
packed_schema = indexed (indexed packed_table_schema old_span_made old_span_first) packed_span_made span_first

-- ---- what may stand beside the desk's own tables: other tables, indexes and views, which come behind them
-- The views have also each table, index and trigger that is kept unread, and a table to which one of these
-- belongs. So none of them is on one of the desk's tables, as long as that is among the tables.
pub record Beside : Type 0 where
  pub tables : List Table
  pub indexes : List Index
  pub views : List View

abbrev pub with_beside : Schema → Beside → Schema
with_beside schema beside = record {
  tables = schema.tables ++ beside.tables;
  indexes = schema.indexes ++ beside.indexes;
  views = schema.views ++ beside.views;
}

-- a desk's schema, and these beside it
abbrev pub desk_with : Beside → Schema
desk_with beside = with_beside desk_schema beside

-- what comes behind as many tables and indexes as a desk has; it has no views
abbrev pub beside_of : Schema → Beside
beside_of schema =
    record { tables = drop 6 schema.tables; indexes = drop 8 schema.indexes; views = schema.views }

-- a desk's schema, and beside it what this schema has there
abbrev pub desk_in : Schema → Schema
desk_in schema = desk_with (beside_of schema)

-- the names of the desk's tables
abbrev pub own_names : List (List ℕ)
own_names = codes "operator" ∷ codes "plan" ∷ codes "volume" ∷ codes "span" ∷ codes "volume2" ∷ codes "span2" ∷ []

abbrev pub is_own_name : List ℕ → Bool
is_own_name name = list_any (λ own. same_name own name) own_names

-- a foreign key that refers to none of the desk's tables
abbrev pub refers_elsewhere : Reference → Bool
refers_elsewhere reference = not (is_own_name reference.parent)

-- each table has a b-tree behind the one before, and refers to none of the desk's
abbrev pub are_tables_apart : ℕ → List Table → Bool
are_tables_apart last [] = true
are_tables_apart last (table ∷ tables) =
    nat_lt last table.tree && (list_all refers_elsewhere table.references && are_tables_apart table.tree tables)

-- an index of a table behind the desk's, whose last b-tree is 13
abbrev pub is_index_apart : Index → Bool
is_index_apart index = nat_lt 13 index.table

-- no table is one of the desk's or refers to one, and no index is on one of them
pub record StandsApart (beside : Beside) : Type 0 where
  pub tables : are_tables_apart 13 beside.tables ≡ true
  pub indexes : list_all is_index_apart beside.indexes ≡ true

-- the desk's tables and indexes, and others beside them that stand apart
pub record IsDeskSchema (schema : Schema) : Type 0 where
  pub is : schema ≡ desk_in schema
  pub apart : StandsApart (beside_of schema)

-- the schema of a database that has the tables and indexes `made`
abbrev pub schema_of : TablesPresent → Schema
schema_of Nothing = blank_schema
schema_of Operators = operator_schema
schema_of Plans = plan_schema
schema_of OldVolumes = old_volume_schema
schema_of OldSpans = old_table_schema
schema_of OldIndex = old_schema
schema_of Volumes = volume_schema
schema_of Spans = table_schema
schema_of All = desk_schema
schema_of Packed = packed_schema

-- a database has the tables and indexes `made`. If it has all, in canonical order, others may stand beside them
abbrev pub IsSchemaOf : TablesPresent → Schema → Type 0
IsSchemaOf All schema = IsDeskSchema schema
IsSchemaOf made schema = schema ≡ schema_of made

-- ---- the tables as they stand among others
abbrev pub operator_made : Table
operator_made = record operator_table { tree = 0 }

abbrev pub plan_made : Table
plan_made = record plan_table { tree = 2 }

abbrev pub old_volume_made : Table
old_volume_made = record old_volume_table { tree = 4 }

abbrev pub volume_made : Table
volume_made = record volume_table { tree = 9 }

-- `volume2` as it stands in a packed file
abbrev pub packed_volume_made : Table
packed_volume_made = record volume_table { tree = 8 }

-- the tables of version 1, and then others
abbrev pub old_tables_and : List Table → List Table
old_tables_and others = operator_made ∷ plan_made ∷ old_volume_made ∷ old_span_made ∷ others

-- a table, those that are made before it, and then others
abbrev pub tables_to : DeskTable → List Table → List Table
tables_to desk.Operator others = operator_made ∷ others
tables_to desk.Plan others = operator_made ∷ plan_made ∷ others
tables_to desk.OldVolume others = operator_made ∷ plan_made ∷ old_volume_made ∷ others
tables_to desk.OldSpan others = old_tables_and others
tables_to desk.Volume others = old_tables_and (volume_made ∷ others)
tables_to desk.Span others = old_tables_and (volume_made ∷ span_made ∷ others)
tables_to desk.PackedVolume others = old_tables_and (packed_volume_made ∷ others)
tables_to desk.PackedSpan others = old_tables_and (packed_volume_made ∷ packed_span_made ∷ others)

-- the number of the b-tree that has the rows of a table
abbrev pub tree_of : DeskTable → ℕ
tree_of desk.Operator = 0
tree_of desk.Plan = 2
tree_of desk.OldVolume = 4
tree_of desk.OldSpan = 6
tree_of desk.Volume = 9
tree_of desk.Span = 11
tree_of desk.PackedVolume = 8
tree_of desk.PackedSpan = 10

-- whether the table is one of version 1
abbrev pub is_old : DeskTable → Bool
is_old desk.Operator = true
is_old desk.Plan = true
is_old desk.OldVolume = true
is_old desk.OldSpan = true
is_old _ = false

-- whether the tables come before all indexes
abbrev pub is_packed : TablesPresent → Bool
is_packed Packed = true
is_packed _ = false

-- whether a database that has the tables `made` has this table, in this b-tree
abbrev pub has_table : TablesPresent → DeskTable → Bool
has_table Nothing _ = false
has_table Operators desk.Operator = true
has_table Operators _ = false
has_table Plans desk.Operator = true
has_table Plans desk.Plan = true
has_table Plans _ = false
has_table OldVolumes desk.Operator = true
has_table OldVolumes desk.Plan = true
has_table OldVolumes desk.OldVolume = true
has_table OldVolumes _ = false
has_table OldSpans table = is_old table
has_table OldIndex table = is_old table
has_table Volumes desk.Volume = true
has_table Volumes table = is_old table
has_table Spans desk.Volume = true
has_table Spans desk.Span = true
has_table Spans table = is_old table
has_table All desk.Volume = true
has_table All desk.Span = true
has_table All table = is_old table
has_table Packed desk.PackedVolume = true
has_table Packed desk.PackedSpan = true
has_table Packed table = is_old table

-- these, with any indexes and views
abbrev pub schema_to : DeskTable → List Table → List Index → List View → Schema
schema_to table others indexes views =
    record { tables = tables_to table others; indexes = indexes; views = views }

-- a database with the table, in its tree
pub record HasTable (table : DeskTable) (db : Database) : Type 0 where
  pub others : List Table
  pub schema : db.schema ≡ schema_to table others db.schema.indexes db.schema.views

-- ==== The tables and indexes of a desk: the program's forms of them, and what these stand for in a schema
-- ---- the parts of a table and of an index
-- no default reads the time
abbrev pub no_stamps : Stamps
no_stamps = record { places = []; terms = []; formats = [] }

-- the table with no INTEGER PRIMARY KEY, CHECK, computed default or AUTOINCREMENT
abbrev pub without_extras : Table → Table
without_extras table =
    record table { key = None; checks = []; computed = []; stamps = no_stamps; is_counted = false }

-- the table of this name, tree and primary key that has the columns and references of another
abbrev pub plain_table : Table → List ℕ → ℕ → List ℕ → Table
plain_table like name tree key = record (table_of name like.columns key like.references) { tree = tree }

-- the index that SQLite makes for the primary key of the table in the tree before its own
abbrev pub key_index : List ℕ → ℕ → List ℕ → Index
key_index name table key =
    record { name = name; tree = table + 1; table = table; columns = key; order = plain; is_unique = true }

-- ---- what a form stands for
-- a column of a STRICT table
abbrev pub column_from : ColumnForm → Column
column_from (column.OfText name) = column_of name.now Text
column_from (column.OfNumber name) = column_of name.now Integer
column_from (column.OfBytes name) = column_of name.now Blob

-- the name of a column
abbrev pub name_from : ColumnForm → List ℕ
name_from form = (column_from form).name

-- a foreign key with no action on an update
abbrev pub reference_from : ReferenceForm → Reference
reference_from form = record {
  columns = form.places.now;
  parent = form.parent.now;
  parent_columns = map name_from form.parent_columns.now;
  on_delete = form.on_delete;
  on_update = NoAction;
  is_deferred = false;
}

-- the table in the b-tree `tree`
abbrev pub table_from : TableForm → ℕ → Table
table_from form tree = record (table_of form.name.now (map column_from form.columns.now) form.key.now
    (map reference_from form.references.now)) { tree = tree }

-- the tables of these objects
abbrev pub tables_from : List DeskObject → List Table
tables_from [] = []
tables_from (object.KeyedTable form tree ∷ others) = table_from form tree ∷ tables_from others
tables_from (object.LeafIndex form tree table ∷ others) = tables_from others

-- an index over leaves itself, or the index of a table's primary key
abbrev pub index_from : DeskObject → Index
index_from (object.KeyedTable form tree) = key_index form.key_index.now tree form.key.now
index_from (object.LeafIndex form tree table) = record (leaf_index_of form.name.now table) { tree = tree }

-- the schema of these objects, and of no others
abbrev pub schema_from : List DeskObject → Schema
schema_from objects = record { tables = tables_from objects; indexes = map index_from objects; views = [] }
