use Rattle.std.proofs.Common.{◌≡◌, drop}
use Rattle.std.specs.List.{list_any}
use Rattle.view_sentences.specs.Alike.{shows}
use Rattle.view_sentences.proofs.alike.is_drawn.Given as goal

-- none of the windows so far has the place
abbrev pub invariant-loop-window : goal.invariant-loop-window
invariant-loop-window l =
    list_any (shows l.place) (drop l.window-index l.windows) ≡ list_any (shows l.place) l.windows
