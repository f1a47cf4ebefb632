-- What is at the paths of a disk, and how that changes.
use Rattle.std.specs.Prelude.{◌≡◌, ◌≢◌, ℕ, ◌<◌, ◌++◌, ◌⊎◌, List, [], length, slice_index, Option, None, Some, ⊤, codes}
use Rattle.std.specs.Fmt.{decimal}

-- what is at a path: nothing, an ordinary file with its bytes, or something different, such as a device
pub data Entry : Type 0 where
  Nothing : Entry
  Ordinary : List ℕ → Entry
  Other : Entry

-- what is at each path
abbrev pub Entries : Type 0
Entries = List ℕ → Entry

-- what was known is known afterwards, and each path that is not touched has what it had
abbrev pub KeepsBut : (List ℕ → Type 0) → Option Entries → Option Entries → Type 0
KeepsBut touched None new = ⊤
KeepsBut touched (Some old) None = ⊥
KeepsBut touched (Some old) (Some new) = (path : List ℕ) → touched path ⊎ (new path ≡ old path)

-- what a disk says of a path: the path that it leads to, or None if something other than an ordinary file is there
abbrev pub IsPathOf : Option Entries → List ℕ → Option (List ℕ) → Type 0
IsPathOf None real found = ⊤
IsPathOf (Some entries) real (Some found) = found ≡ real
IsPathOf (Some entries) real None = entries real ≡ Other

-- a path has a file with these bytes; a device is written as it is, and nothing is said of it
abbrev pub IsPut : Option Entries → Option Entries → List ℕ → List ℕ → Type 0
IsPut (Some old) (Some new) path bytes = (old path ≡ Other) ⊎ (new path ≡ Ordinary bytes)
IsPut old new path bytes = ⊤

-- something other than an ordinary file, or nothing
abbrev pub IsNoFile : Entry → Type 0
IsNoFile (Ordinary bytes) = ⊥
IsNoFile entry = ⊤

-- two paths are not those of one ordinary file
abbrev pub AreApart : Option Entries → List ℕ → List ℕ → Type 0
AreApart None left right = ⊤
AreApart (Some entries) left right = (left ≢ right) ⊎ IsNoFile (entries left)

-- a path has what it had, unless that is a device
abbrev pub Stays : Option Entries → Option Entries → List ℕ → Type 0
Stays (Some old) (Some new) path = (old path ≡ Other) ⊎ (new path ≡ old path)
Stays old new path = ⊤

-- a name without a slash
abbrev pub HasNoSlash : List ℕ → Type 0
HasNoSlash name = (i : ℕ) → i < length name → slice_index name i ≡ 47 → ⊥

-- the part of a path before the name: up to its last slash and with it, or nothing
abbrev pub IsFolderOf : List ℕ → List ℕ → Type 0
IsFolderOf path folder = (name : List ℕ) × HasNoSlash name × (path ≡ folder ++ name) × ((folder ≡ []) ⊎ ((outer : List ℕ) × (folder ≡ outer ++ codes "/")))

-- the path of a new file: in the folder of the file that it will replace, with the name `.rvstm.new0` to
-- `.rvstm.new99`
abbrev pub IsNewPath : List ℕ → List ℕ → Type 0
IsNewPath replaced path = (folder : List ℕ) × (n : ℕ) × IsFolderOf replaced folder × (n < 100) × (path ≡ folder ++ codes ".rvstm.new" ++ decimal n)

-- the same, and not the path whose file it will replace
abbrev pub IsBeside : List ℕ → List ℕ → Type 0
IsBeside replaced path = IsNewPath replaced path × (path ≡ replaced → ⊥)

-- if a file is put at `out`, the ordinary file at another path stays, unless its path is that of a new file beside
-- `out`: such a file may be taken for one that was left over
abbrev pub KeepsFile : Option Entries → Option Entries → List ℕ → List ℕ → Type 0
KeepsFile None new path out = ⊤
KeepsFile (Some old) None path out = ⊥
KeepsFile (Some old) (Some new) path out = IsNoFile (old path) ⊎ IsNewPath out path ⊎ (new path ≡ old path)
