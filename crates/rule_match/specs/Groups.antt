-- Rules grouped by `func=` and, within that, by `fsmagic=`. Rules without one of the two have
-- groups of their own. Lines are counted from 0.
use Rattle.std.specs.Prelude.{◌≡◌, ℕ, ◌+◌, nat_lt, ◌==◌, List, [], ◌∷◌, drop, Option, Some, None, slice_get, if◌then◌else◌}
use Rattle.policy_rules.specs.RuleValue.{RuleValue}
use Rattle.policy_rules.specs.declared.access.Access.{Access}
use Rattle.rule_match.specs.declared.group.Candidates.{Candidates}
use Rattle.rule_match.specs.declared.group.Group.{Group}
use Rattle.rule_match.specs.Group.{same_group}

abbrev pub group_of : RuleValue → Group
group_of r = record { func = r.func; magic = r.fsmagic }

-- the lines of the group in order, if the first of these rules is at line k
abbrev pub lines_from : Group → ℕ → List RuleValue → List ℕ
lines_from g k [] = []
lines_from g k (r ∷ rules) =
    if same_group (group_of r) g then k ∷ lines_from g (k + 1) rules else lines_from g (k + 1) rules

-- the four groups whose rules can match the access
abbrev pub group_of_both : Access → Group
group_of_both a = record { func = Some a.func; magic = Some a.place.now.magic }

abbrev pub group_of_func : Access → Group
group_of_func a = record { func = Some a.func; magic = None }

abbrev pub group_of_magic : Access → Group
group_of_magic a = record { func = None; magic = Some a.place.now.magic }

abbrev pub group_of_neither : Group
group_of_neither = record { func = None; magic = None }

-- the candidates are the lines of those four groups from `start` on
pub record StandsAt (start : ℕ) (rules : List RuleValue) (a : Access) (c : Candidates) : Type 0
  where
    pub both : c.both.now ≡ lines_from (group_of_both a) start (drop start rules)
    pub func : c.func.now ≡ lines_from (group_of_func a) start (drop start rules)
    pub magic : c.magic.now ≡ lines_from (group_of_magic a) start (drop start rules)
    pub neither : c.neither.now ≡ lines_from group_of_neither start (drop start rules)

abbrev pub earlier_of : Option ℕ → Option ℕ → Option ℕ
earlier_of None n = n
earlier_of (Some m) None = Some m
earlier_of (Some m) (Some n) = if nat_lt n m then Some n else Some m

-- the first of all candidate lines
abbrev pub earliest_of : Candidates → Option ℕ
earliest_of c =
    let first = λ (lines : List ℕ). slice_get lines 0 in
    earlier_of
    (earlier_of (first c.both.now) (first c.func.now))
    (earlier_of (first c.magic.now) (first c.neither.now))

-- the lines of a group that remain after the walk has passed `line`
abbrev pub lines_after : ℕ → List ℕ → List ℕ
lines_after line [] = []
lines_after line (l ∷ lines) = if l == line then lines else l ∷ lines
