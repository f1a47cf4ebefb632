-- The tables of a session, as sqlite_schema lists them.
use Rattle.std.specs.Prelude.{ℕ, List, [], ◌∷◌, codes}
use Rattle.sqlite_value.specs.Keys.{plain}
use Rattle.sqlite_value.specs.declared.value.Value.TheVariants.{Text}
use Rattle.sqlite_trees.specs.declared.store.Shape.{Shape}
use Rattle.sqlite_trees.specs.declared.store.Shape.TheVariants.{Index, Table}
use Rattle.sqlite_store.specs.declared.catalog.Wanted.{Wanted}

-- a table by its shape, its name and its text
abbrev pub table_of : Shape → List ℕ → List ℕ → Wanted
table_of shape name sql =
    record { shape = shape; reals = 0; row = Text (codes "table") ∷ Text name ∷ Text name ∷ Text sql ∷ [] }

-- the four tables, by the numbers of their trees
unfoldable pub session_schema : List Wanted
session_schema =
    table_of (Index plain) (codes "storage") (codes "CREATE TABLE storage (key BLOB PRIMARY KEY, value BLOB NOT NULL) STRICT, WITHOUT ROWID")
    ∷ table_of (Index plain) (codes "program") (codes "CREATE TABLE program (name BLOB PRIMARY KEY, file BLOB NOT NULL) STRICT, WITHOUT ROWID")
    ∷ table_of Table (codes "session") (codes "CREATE TABLE session (id INTEGER PRIMARY KEY, version INTEGER NOT NULL, frame_limit INTEGER NOT NULL, frame_gas INTEGER, brief INTEGER NOT NULL, rules INTEGER NOT NULL, height INTEGER NOT NULL, digest BLOB NOT NULL) STRICT")
    ∷ table_of Table (codes "answer") (codes "CREATE TABLE answer (id INTEGER PRIMARY KEY, line BLOB NOT NULL, bytes BLOB NOT NULL) STRICT")
    ∷ []
