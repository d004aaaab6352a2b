use Rattle.std.proofs.Common.{◌≡◌, drop}
use Rattle.std.specs.List.{list_any}
use Rattle.view_sentences.specs.Alike.{alike}
use Rattle.view_sentences.proofs.alike.differs.Given as goal

-- none of the events so far is told alike
abbrev pub invariant-loop-found : goal.invariant-loop-found
invariant-loop-found l =
    list_any (alike l.text l.mine l.other l.event) (drop l.found-index l.other)
    ≡ list_any (alike l.text l.mine l.other l.event) l.other
