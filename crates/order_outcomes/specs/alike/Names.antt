-- The files of a moment under other names: a file is named by the place of its count in the journal
-- of its inode.
use Rattle.std.specs.Prelude.{ℕ, ◌==◌, Bool, false, ◌&&◌, ◌||◌, List, map, Option, Some, None, option_map}
use Rattle.std.specs.List.{list_any}
use Rattle.report_text.specs.model.History.{Position}
use Rattle.report_text.specs.model.steps.CallState.{CallState, Progress}
use Rattle.report_text.specs.model.steps.declared.held.Handle.{Handle}

-- for each inode, the file of the second moment that is the file of the first
abbrev pub Naming : Type 0
Naming = ℕ → ℕ → ℕ

abbrev pub progress_named : Naming → Progress → Progress
progress_named r g = record g { file = r g.inode g.file }

abbrev pub handle_named : Naming → Handle → Handle
handle_named r h = record h { file = r h.inode h.file }

abbrev pub call_state_named : Naming → CallState → CallState
call_state_named r m = record m {
  progress = option_map (progress_named r) m.progress;
  handles = map (handle_named r) m.handles;
}

-- the task with its files under the other names
abbrev pub position_named : Naming → Position → Position
position_named r t = record t { call_state = call_state_named r t.call_state }

abbrev pub in_progress : ℕ → ℕ → Option Progress → Bool
in_progress i file None = false
in_progress i file (Some g) = g.inode == i && g.file == file

abbrev pub in_handles : ℕ → ℕ → List Handle → Bool
in_handles i file hs = list_any (λ (h : Handle). h.inode == i && h.file == file) hs

-- the task holds the file of this inode, or its present call acts on it
abbrev pub has_file : ℕ → ℕ → Position → Bool
has_file i file t =
    in_progress i file t.call_state.progress || in_handles i file t.call_state.handles

-- some task has the file; a file that a call is to count has the name 0 until then
abbrev pub is_used : List Position → ℕ → ℕ → Bool
is_used positions i file = file == 0 || list_any (has_file i file) positions
