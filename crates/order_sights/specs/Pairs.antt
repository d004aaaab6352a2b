-- The files of two moments in pairs, and tasks that are the same but for the names of their files.
use Rattle.std.specs.Prelude.{◌≡◌, ℕ, ◌==◌, ◌<◌, ◌&&◌, ◌||◌, not, nat_lt, Bool, true, List, [], ◌∷◌, length, Option, Some, None, slice_get, if◌then◌else◌}
use Rattle.std.specs.List.{list_all, list_any}
use Rattle.call_steps.specs.CallState.{Progress}
use Rattle.call_steps.specs.declared.held.Handle.{Handle}
use Rattle.run_model.specs.History.{Position}
use Rattle.order_sights.specs.declared.pairs.Pair.{Pair}

-- ---- pairs

abbrev pub is_pair : ℕ → ℕ → ℕ → Pair → Bool
is_pair inode first second pair =
    pair.inode == inode && pair.first == first && pair.second == second

-- the two files are a pair
abbrev pub has_pair : List Pair → ℕ → ℕ → ℕ → Bool
has_pair pairs inode first second = list_any (is_pair inode first second) pairs

abbrev pub same_bool : Bool → Bool → Bool
same_bool a b = if a then b else not b

-- the pairs are of different files in both moments, or of the same in both
abbrev pub is_apart : Pair → Pair → Bool
is_apart pair other =
    not (other.inode == pair.inode)
    || same_bool (other.first == pair.first) (other.second == pair.second)

abbrev pub are_apart : List Pair → Bool
are_apart pairs = list_all (λ p. list_all (is_apart p) pairs) pairs

abbrev pub are_within : ℕ → List Pair → Bool
are_within inodes pairs = list_all (λ p. nat_lt p.inode inodes) pairs

-- the pairs are of files of so many inodes, and no file is in two with different files
pub record ArePairs (inodes : ℕ) (pairs : List Pair) : Type 0 where
  pub within : are_within inodes pairs ≡ true
  pub apart : are_apart pairs ≡ true

-- the name that the pairs give a file, which has the same name otherwise
abbrev pub named : List Pair → ℕ → ℕ → ℕ
named [] i file = file
named (p ∷ ps) i file = if p.inode == i && p.first == file then p.second else named ps i file

-- ---- tasks

-- the second is the first, on a file that is a pair with the first one's
pub record IsPairedBy (pairs : List Pair) (g h : Progress) : Type 0 where
  pub same : h ≡ record g { file = h.file }
  pub files : has_pair pairs g.inode g.file h.file ≡ true

abbrev pub IsProgressPaired : List Pair → Option Progress → Option Progress → Type 0
IsProgressPaired pairs None None = Unit {0}
IsProgressPaired pairs (Some g) (Some h) = IsPairedBy pairs g h
IsProgressPaired pairs _ _ = ⊥

pub record IsHandlePaired (pairs : List Pair) (h k : Handle) : Type 0 where
  pub same : k ≡ record h { file = k.file }
  pub files : has_pair pairs h.inode h.file k.file ≡ true

-- the items at the same places below the end are related
abbrev pub AreTwo : {X Y : Type 0} → (X → Y → Type 0) → List X → List Y → ℕ → Type 0
AreTwo {X} {Y} P xs ys end =
    (k : ℕ) → k < end → (x : X) (y : Y) → slice_get xs k ≡ Some x → slice_get ys k ≡ Some y → P x y

abbrev pub HandlesPaired : List Pair → List Handle → List Handle → Type 0
HandlesPaired pairs hs ks =
    (length ks ≡ length hs) × AreTwo (IsHandlePaired pairs) hs ks (length hs)

-- the tasks are the same, but for the names of their files
pub record IsPositionPaired (pairs : List Pair) (t u : Position) : Type 0 where
  pub at : u.call_state.at ≡ t.call_state.at
  pub progress : IsProgressPaired pairs t.call_state.progress u.call_state.progress
  pub handles : HandlesPaired pairs t.call_state.handles u.call_state.handles
  pub replies : u.replies ≡ t.replies

abbrev pub ArePositionsPaired : List Pair → List Position → List Position → Type 0
ArePositionsPaired pairs ts us =
    (length us ≡ length ts) × AreTwo (IsPositionPaired pairs) ts us (length ts)
