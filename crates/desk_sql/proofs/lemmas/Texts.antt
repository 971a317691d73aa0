-- The texts of the statements.
use Rattle.std.specs.Prelude.{ℕ, List, codes}

abbrev pub operator_text : List ℕ
operator_text = codes
    "CREATE TABLE operator (name TEXT NOT NULL, ceiling INTEGER NOT NULL, PRIMARY KEY (name)) STRICT"

abbrev pub plan_text : List ℕ
plan_text = codes "CREATE TABLE plan (operator TEXT NOT NULL, id TEXT NOT NULL, priority INTEGER NOT NULL, usage INTEGER NOT NULL, aircraft INTEGER NOT NULL, PRIMARY KEY (operator, id), FOREIGN KEY (operator) REFERENCES operator (name)) STRICT"

abbrev pub old_volume_text : List ℕ
old_volume_text = codes "CREATE TABLE volume (operator TEXT NOT NULL, id TEXT NOT NULL, place INTEGER NOT NULL, lower INTEGER NOT NULL, upper INTEGER NOT NULL, start INTEGER NOT NULL, stop INTEGER NOT NULL, asked BLOB NOT NULL, PRIMARY KEY (operator, id, place), FOREIGN KEY (operator, id) REFERENCES plan (operator, id) ON DELETE CASCADE) STRICT"

abbrev pub old_span_text : List ℕ
old_span_text = codes "CREATE TABLE span (operator TEXT NOT NULL, id TEXT NOT NULL, place INTEGER NOT NULL, first INTEGER NOT NULL, last INTEGER NOT NULL, lower INTEGER NOT NULL, upper INTEGER NOT NULL, start INTEGER NOT NULL, stop INTEGER NOT NULL, priority INTEGER NOT NULL, PRIMARY KEY (operator, id, place, first), FOREIGN KEY (operator, id) REFERENCES plan (operator, id) ON DELETE CASCADE) STRICT"

abbrev pub old_leaf_index_text : List ℕ
old_leaf_index_text = codes
    "CREATE INDEX span_first ON span (first, last, lower, upper, start, stop, priority, operator, id)"

abbrev pub volume_text : List ℕ
volume_text = codes "CREATE TABLE volume2 (operator TEXT NOT NULL, id TEXT NOT NULL, place INTEGER NOT NULL, lower INTEGER NOT NULL, upper INTEGER NOT NULL, start INTEGER NOT NULL, stop INTEGER NOT NULL, asked BLOB NOT NULL, canon BLOB NOT NULL, PRIMARY KEY (operator, id, place), FOREIGN KEY (operator, id) REFERENCES plan (operator, id) ON DELETE CASCADE) STRICT"

abbrev pub span_text : List ℕ
span_text = codes "CREATE TABLE span2 (operator TEXT NOT NULL, id TEXT NOT NULL, place INTEGER NOT NULL, first INTEGER NOT NULL, last INTEGER NOT NULL, lower INTEGER NOT NULL, upper INTEGER NOT NULL, start INTEGER NOT NULL, stop INTEGER NOT NULL, priority INTEGER NOT NULL, PRIMARY KEY (operator, id, place, first), FOREIGN KEY (operator, id) REFERENCES plan (operator, id) ON DELETE CASCADE) STRICT"

abbrev pub leaf_index_text : List ℕ
leaf_index_text = codes
    "CREATE INDEX span2_first ON span2 (first, last, lower, upper, start, stop, priority, operator, id)"

abbrev pub all_operators_text : List ℕ
all_operators_text = codes "SELECT name, ceiling FROM operator ORDER BY name"

abbrev pub plan_of_text : List ℕ
plan_of_text = codes "SELECT operator, id, priority, usage, aircraft FROM plan WHERE operator = ?1 AND id = ?2"

abbrev pub all_plans_text : List ℕ
all_plans_text = codes "SELECT operator, id, priority, usage, aircraft FROM plan ORDER BY operator, id"

abbrev pub volumes_of_text : List ℕ
volumes_of_text = codes
    "SELECT operator, id, place, lower, upper, start, stop, asked FROM volume2 WHERE operator = ?1 AND id = ?2 ORDER BY place"

abbrev pub all_spans_text : List ℕ
all_spans_text = codes
    "SELECT operator, id, place, first, last, lower, upper, start, stop, priority FROM span2 ORDER BY operator, id, place, first"

abbrev pub volume_rows_text : List ℕ
volume_rows_text = codes
    "SELECT operator, id, place, lower, upper, start, stop, asked, canon FROM volume2 ORDER BY operator, id, place"

abbrev pub own_plans_text : List ℕ
own_plans_text = codes
    "SELECT plan.operator, plan.id, plan.priority, plan.usage, plan.aircraft, volume2.place, volume2.lower, volume2.upper, volume2.start, volume2.stop, volume2.asked FROM plan JOIN volume2 ON volume2.operator = plan.operator AND volume2.id = plan.id WHERE plan.operator = ?1 ORDER BY plan.id, volume2.place"

abbrev pub rival_spans_text : List ℕ
rival_spans_text = codes
    "SELECT first, last, lower, upper, start, stop, priority FROM span2 WHERE first >= ?10 AND first <= ?1 AND last >= ?2 AND lower < ?3 AND upper > ?4 AND start < ?5 AND stop > ?6 AND priority >= ?7 AND (operator <> ?8 OR id <> ?9) ORDER BY first"

abbrev pub insert_operator_text : List ℕ
insert_operator_text = codes "INSERT INTO operator (name, ceiling) VALUES (?1, ?2)"

abbrev pub insert_plan_text : List ℕ
insert_plan_text = codes
    "INSERT INTO plan (operator, id, priority, usage, aircraft) VALUES (?1, ?2, ?3, ?4, ?5)"

abbrev pub insert_volume_text : List ℕ
insert_volume_text = codes
    "INSERT INTO volume2 (operator, id, place, lower, upper, start, stop, asked, canon) VALUES (?1, ?2, ?3, ?4, ?5, ?6, ?7, ?8, ?9)"

abbrev pub insert_span_text : List ℕ
insert_span_text = codes
    "INSERT INTO span2 (operator, id, place, first, last, lower, upper, start, stop, priority) VALUES (?1, ?2, ?3, ?4, ?5, ?6, ?7, ?8, ?9, ?10)"

abbrev pub set_ceiling_text : List ℕ
set_ceiling_text = codes "UPDATE operator SET ceiling = ?2 WHERE name = ?1"

abbrev pub close_plan_text : List ℕ
close_plan_text = codes
    "UPDATE plan SET priority = ?3, usage = 2, aircraft = ?4 WHERE operator = ?1 AND id = ?2"

abbrev pub remove_plan_text : List ℕ
remove_plan_text = codes "DELETE FROM plan WHERE operator = ?1 AND id = ?2"

abbrev pub remove_spans_text : List ℕ
remove_spans_text = codes "DELETE FROM span2 WHERE operator = ?1 AND id = ?2"

abbrev pub operator_rowids_text : List ℕ
operator_rowids_text = codes "SELECT rowid FROM operator ORDER BY rowid"

abbrev pub plan_rowids_text : List ℕ
plan_rowids_text = codes "SELECT rowid FROM plan ORDER BY rowid"

abbrev pub old_volume_rowids_text : List ℕ
old_volume_rowids_text = codes "SELECT rowid FROM volume ORDER BY rowid"

abbrev pub old_span_rowids_text : List ℕ
old_span_rowids_text = codes "SELECT rowid FROM span ORDER BY rowid"

abbrev pub volume_rowids_text : List ℕ
volume_rowids_text = codes "SELECT rowid FROM volume2 ORDER BY rowid"

abbrev pub span_rowids_text : List ℕ
span_rowids_text = codes "SELECT rowid FROM span2 ORDER BY rowid"
