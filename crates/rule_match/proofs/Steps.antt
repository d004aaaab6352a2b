-- The turns of a walk over the candidates.
use Rattle.std.proofs.Common.{◌≡◌, ℕ, ◌+◌, ◌-◌, ◌<◌, ◌≤◌, List, length, take, drop, get_or, Option, Some, None, true, false, refl, sym, ap, subst, ◌∙◌, arith}
use Rattle.std.proofs.Math.Seq.{take-add}
use Rattle.std.proofs.lemmas.List.{drop-drop, length-drop, length-take, take_all, take-append-drop}
use Rattle.std.proofs.lemmas.Option.{none-some, same_Some, slice_get_read, slice_get_within}
use Rattle.std.specs.Option.{option_map_or}
use Rattle.std.specs.Prelude.{slice_get}
use Rattle.policy_rules.specs.RuleValue.{RuleValue}
use Rattle.policy_rules.specs.declared.access.Access.{Access}
use Rattle.rule_match.specs.Conditions.{rule_matches}
use Rattle.rule_match.specs.Deciders.{AreDeciders, after_line, is_complete}
use Rattle.rule_match.specs.Groups.{StandsAt, earlier_of, earliest_of, group_of_both, group_of_func, group_of_magic, group_of_neither, lines_after, lines_from}
use Rattle.rule_match.specs.declared.deciders.Deciders.{Deciders}
use Rattle.rule_match.specs.declared.group.Candidates.{Candidates}
use Rattle.rule_match.specs.declared.group.Group.{Group}
use Rattle.rule_match.proofs.Lines.{above_head, earlier_all, earlier_min, earlier_none, head_of, head_within, lines_passed}
use Rattle.rule_match.proofs.Lookups.{get-take, take-next}
use Rattle.rule_match.proofs.Skips.{matches_not}
use Rattle.rule_match.proofs.Walks.{deciders-complete, deciders-next, deciders-skip}

-- the walk has passed the lines before `start`, and has found the lines among them that decide
pub record Walks (rules : List RuleValue) (a : Access) (c : Candidates) (d : Deciders) : Type 0
  where
    pub start : ℕ
    pub within : start ≤ length rules
    pub stands : StandsAt start rules a c
    pub found : AreDeciders a (take start rules) d

-- the number of lines from the next candidate on
abbrev pub lines_left : List RuleValue → Candidates → ℕ
lines_left rules c = option_map_or (λ line. length rules - line) (earliest_of c) 0

module _ (rules : List RuleValue) (a : Access) (c : Candidates) (start : ℕ)
    (within : start ≤ length rules) (stands : StandsAt start rules a c) where
  -- a property of the first line of each group is a property of the first candidate
  earliest_all : (P : ℕ → Type 0) (line : ℕ)
      → ((g : Group) (l : ℕ) → head_of (lines_from g start (drop start rules)) ≡ Some l → P l)
      → earliest_of c ≡ Some line → P line
  earliest_all P line all is =
      earlier_all P (earlier_of (head_of c.both.now) (head_of c.func.now))
      (earlier_of (head_of c.magic.now) (head_of c.neither.now)) line
      (λ l e. earlier_all P (head_of c.both.now) (head_of c.func.now) l
      (λ i f. all (group_of_both a) i (ap head_of (sym stands.both) ∙ f))
      (λ i f. all (group_of_func a) i (ap head_of (sym stands.func) ∙ f)) e)
      (λ l e. earlier_all P (head_of c.magic.now) (head_of c.neither.now) l
      (λ i f. all (group_of_magic a) i (ap head_of (sym stands.magic) ∙ f))
      (λ i f. all group_of_neither i (ap head_of (sym stands.neither) ∙ f)) e)
      is

  pub earliest_within : (line : ℕ) → earliest_of c ≡ Some line → (start ≤ line)
      × (line < length rules)
  earliest_within line is =
      earliest_all (λ l. (start ≤ l) × (l < length rules)) line
      (λ g l e. let w = head_within g start (drop start rules) l e
      in (omega (arith, w.0), omega (arith, w.1, within, length-drop start rules)))
      is

  -- a rule before the first lines of all four groups doesn't match
  none_above : (n : ℕ) → ((l : ℕ) → head_of c.both.now ≡ Some l → n ≤ l)
      → ((l : ℕ) → head_of c.func.now ≡ Some l → n ≤ l)
      → ((l : ℕ) → head_of c.magic.now ≡ Some l → n ≤ l)
      → ((l : ℕ) → head_of c.neither.now ≡ Some l → n ≤ l)
      → (i : ℕ) (r : RuleValue) → start + i < n → slice_get (drop start rules) i ≡ Some r
      → rule_matches r a ≡ false
  none_above n both func magic neither i r below at =
      matches_not a r
      (above_head (group_of_both a) start (drop start rules) i r at
      (λ l e. let w = both l (ap head_of stands.both ∙ e) in omega arith))
      (above_head (group_of_func a) start (drop start rules) i r at
      (λ l e. let w = func l (ap head_of stands.func ∙ e) in omega arith))
      (above_head (group_of_magic a) start (drop start rules) i r at
      (λ l e. let w = magic l (ap head_of stands.magic ∙ e) in omega arith))
      (above_head group_of_neither start (drop start rules) i r at
      (λ l e. let w = neither l (ap head_of stands.neither ∙ e) in omega arith))

  -- at the end, none of the remaining rules matches
  pub ends : (d : Deciders) → earliest_of c ≡ None → AreDeciders a (take start rules) d
      → AreDeciders a rules d
  ends d none found =
      let all = earlier_none (earlier_of (head_of c.both.now) (head_of c.func.now))
      (earlier_of (head_of c.magic.now) (head_of c.neither.now)) none in
      let by_func = earlier_none (head_of c.both.now) (head_of c.func.now) all.0 in
      let by_none = earlier_none (head_of c.magic.now) (head_of c.neither.now) all.1 in
      subst (λ (rs : List RuleValue). AreDeciders a rs d) (take-append-drop start rules)
      (deciders-skip a (take start rules) (drop start rules) d
      (λ i r at. none_above (start + i + 1) (λ l e. absurd (none-some l (sym by_func.0 ∙ e)))
      (λ l e. absurd (none-some l (sym by_func.1 ∙ e)))
      (λ l e. absurd (none-some l (sym by_none.0 ∙ e)))
      (λ l e. absurd (none-some l (sym by_none.1 ∙ e))) i r (omega arith) at)
      found)

  -- the walk goes to the next candidate: the rules between don't match
  pub reaches : (d : Deciders) (line : ℕ) → earliest_of c ≡ Some line
      → AreDeciders a (take start rules) d → AreDeciders a (take line rules) d
  reaches d line is found =
      let at = earliest_within line is in
      let parts : start + (line - start) ≡ line = omega (arith, at.0) in
      let halves = earlier_min (earlier_of (head_of c.both.now) (head_of c.func.now))
      (earlier_of (head_of c.magic.now) (head_of c.neither.now)) line
      (λ l e. let same : line ≡ l = same_Some line l (sym is ∙ e) in omega arith) in
      let by_func = earlier_min (head_of c.both.now) (head_of c.func.now) line halves.0 in
      let by_none = earlier_min (head_of c.magic.now) (head_of c.neither.now) line halves.1 in
      subst (λ (rs : List RuleValue). AreDeciders a rs d) (sym (take-add start (line - start) rules)
      ∙ ap (λ (n : ℕ). take n rules) parts)
      (deciders-skip a (take start rules) (take (line - start) (drop start rules)) d
      (λ i r e.
      let there = get-take (line - start) (drop start rules) i r e in
      let below = slice_get_within (take (line - start) (drop start rules)) i r e in
      none_above line by_func.0 by_func.1 by_none.0 by_none.1 i r
      (omega (arith, below, length-take (line - start) (drop start rules))) there)
      found)

  -- the candidates that remain after the next line is passed
  passed_lines : (g : Group) (line : ℕ) → earliest_of c ≡ Some line
      → ((l : ℕ) → head_of (lines_from g start (drop start rules)) ≡ Some l → line ≤ l)
      → lines_after line (lines_from g start (drop start rules))
      ≡ lines_from g (line + 1) (drop (line + 1) rules)
  passed_lines g line is least =
      let at = earliest_within line is in
      let further : start + (line + 1 - start) ≡ line + 1 = omega (arith, at.0) in
      lines_passed g start (drop start rules) line at.0
      (omega (arith, at.1, length-drop start rules)) least
      ∙ ap (lines_from g (line + 1)) (drop-drop (line + 1 - start) start rules
      ∙ ap (λ (n : ℕ). drop n rules) further)

  pub stands_after : (next : Candidates) (line : ℕ) → earliest_of c ≡ Some line
      → next.both.now ≡ lines_after line c.both.now → next.func.now ≡ lines_after line c.func.now
      → next.magic.now ≡ lines_after line c.magic.now → next.neither.now
      ≡ lines_after line c.neither.now
      → StandsAt (line + 1) rules a next
  stands_after next line is both func magic neither =
      let halves = earlier_min (earlier_of (head_of c.both.now) (head_of c.func.now))
      (earlier_of (head_of c.magic.now) (head_of c.neither.now)) line
      (λ l e. let same : line ≡ l = same_Some line l (sym is ∙ e) in omega arith) in
      let by_func = earlier_min (head_of c.both.now) (head_of c.func.now) line halves.0 in
      let by_none = earlier_min (head_of c.magic.now) (head_of c.neither.now) line halves.1 in
      record {
        both = both ∙ ap (lines_after line) stands.both
            ∙ passed_lines (group_of_both a) line is
            (λ l e. by_func.0 l (ap head_of stands.both ∙ e));
        func = func ∙ ap (lines_after line) stands.func
            ∙ passed_lines (group_of_func a) line is
            (λ l e. by_func.1 l (ap head_of stands.func ∙ e));
        magic = magic ∙ ap (lines_after line) stands.magic
            ∙ passed_lines (group_of_magic a) line is
            (λ l e. by_none.0 l (ap head_of stands.magic ∙ e));
        neither = neither ∙ ap (lines_after line) stands.neither
            ∙ passed_lines group_of_neither line is
            (λ l e. by_none.1 l (ap head_of stands.neither ∙ e));
      }

-- the deciding lines after the line that follows the first ones
pub found_next : (rules : List RuleValue) (a : Access) (line : ℕ) (r : RuleValue)
    (d next : Deciders) → line < length rules → r ≡ get_or rules line r → next
    ≡ after_line a line r d
    → AreDeciders a (take line rules) d → AreDeciders a (take (line + 1) rules) next
found_next rules a line r d next within read is found =
    let at : slice_get rules line ≡ Some r = slice_get_read rules (length rules) line r refl within
    read in
    let end : line ≡ length (take line rules) = omega (arith, length-take line rules) in
    subst (λ (x : Deciders). AreDeciders a (take (line + 1) rules) x) (sym is)
    (subst (λ (rs : List RuleValue). AreDeciders a rs (after_line a line r d))
    (sym (take-next line rules r at)) (deciders-next a (take line rules) r line d end found))

-- once all four families are decided, the deciding lines are those of all rules
pub found_all : (rules : List RuleValue) (a : Access) (n : ℕ) (d : Deciders) → is_complete d ≡ true
    → AreDeciders a (take n rules) d → AreDeciders a rules d
found_all rules a n d whole found =
    subst (λ (rs : List RuleValue). AreDeciders a rs d) (take-append-drop n rules)
    (deciders-complete a (take n rules) (drop n rules) d whole found)

-- fewer lines remain after a line is passed
fewer : (n line : ℕ) (o : Option ℕ) → line < n → ((l : ℕ) → o ≡ Some l → line + 1 ≤ l)
    → option_map_or (λ l. n - l) o 0 < n - line
fewer n line None within further = omega arith
fewer n line (Some l) within further = omega (arith, further l refl)

module _ (rules : List RuleValue) (a : Access) (c : Candidates) (d : Deciders)
    (w : Walks rules a c d) where
  -- the next line is one of the lines of the rules
  pub next_within : (line : ℕ) → Some line ≡ earliest_of c → line < length rules
  next_within line is = (earliest_within rules a c w.start w.within w.stands line (sym is)).1

  -- the deciding lines after the next line is passed
  pub next_found : (line : ℕ) (r : RuleValue) (found : Deciders) → Some line ≡ earliest_of c → r
      ≡ get_or rules line r → found ≡ after_line a line r d
      → AreDeciders a (take (line + 1) rules) found
  next_found line r found is read after =
      found_next rules a line r d found (next_within line is) read after
      (reaches rules a c w.start w.within w.stands d line (sym is) w.found)

  -- the walk continues after the next line
  pub goes_on : (line : ℕ) (r : RuleValue) (next : Candidates) (found : Deciders) → Some line
      ≡ earliest_of c → r ≡ get_or rules line r → found ≡ after_line a line r d
      → next.both.now ≡ lines_after line c.both.now → next.func.now ≡ lines_after line c.func.now
      → next.magic.now ≡ lines_after line c.magic.now → next.neither.now
      ≡ lines_after line c.neither.now
      → (lines_left rules next < lines_left rules c) × Walks rules a next found
  goes_on line r next found is read after both func magic neither =
      let within = next_within line is in
      let stands = stands_after rules a c w.start w.within w.stands next line (sym is) both func
      magic neither in
      let further : line + 1 ≤ length rules = omega arith in (
        subst (λ (n : ℕ). lines_left rules next < n)
            (ap (λ o. option_map_or (λ l. length rules - l) o 0) is)
            (fewer (length rules) line (earliest_of next) within
            (λ l e. (earliest_within rules a next (line + 1) further stands l e).0)),
        record {
          start = line + 1;
          within = further;
          stands = stands;
          found =
              next_found line r found is read after;
        },
      )

  -- if no line remains, the walk has found the deciding lines of all rules
  pub walked : None ≡ earliest_of c → AreDeciders a rules d
  walked is = ends rules a c w.start w.within w.stands d (sym is) w.found

-- once all rules are passed, the deciding lines are those of all rules
pub found_end : (rules : List RuleValue) (a : Access) (n : ℕ) (d : Deciders) → length rules ≤ n
    → AreDeciders a (take n rules) d → AreDeciders a rules d
found_end rules a n d past found = subst (λ (rs : List RuleValue). AreDeciders a rs d)
    (take_all n rules past) found
