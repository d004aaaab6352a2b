-- The line of an event that a legal journal has is read as that event.
use Rattle.std.proofs.Common.{◌≡◌, ℕ, ◌<◌, ◌≤◌, ◌^◌, ◌==◌, Bool, true, false, List, [], ◌∷◌, ◌++◌, codes, length, take, Option, Some, None, unwrap_or, refl, sym, ap, ◌∙◌, subst, arith, length-append}
use Rattle.std.proofs.lemmas.Bool.{and_parts, eq-eqb, ne_eqb}
use Rattle.std.proofs.lemmas.List.{take_all}
use Rattle.report_text.specs.Numerals.{numeral}
use Rattle.report_text.specs.Words.{Line, acts_words, admitted_words, appraise_words, deed_words, event_words, flag_words, grant_words, measure_words, or_dash, placed_words, rules_words, step_words, told_words, verdict_words, who_word}
use Rattle.report_text.specs.model.events.Inode.{Inode, nobody}
use Rattle.report_text.specs.model.events.Legal.{Follows, IsBorn}
use Rattle.report_text.specs.model.events.Says.{placed_in, says}
use Rattle.report_text.specs.model.events.declared.deed.Change.TheVariants as change
use Rattle.report_text.specs.model.events.declared.deed.Deed.{Deed}
use Rattle.report_text.specs.model.events.declared.deed.Deed.TheVariants as deed
use Rattle.report_text.specs.model.events.declared.deed.How.TheVariants as how
use Rattle.report_text.specs.model.events.declared.told.Event.{Event as ModelEvent}
use Rattle.report_text.specs.model.events.declared.told.Grant.{Grant}
use Rattle.report_text.specs.model.events.declared.told.Told.{Told}
use Rattle.report_text.specs.model.events.declared.told.Told.TheVariants as told
use Rattle.report_text.specs.model.events.labels.declared.verdict.Verdict.{Verdict}
use Rattle.report_text.specs.model.events.labels.declared.verdict.Verdict.TheVariants as verdict
use Rattle.report_text.specs.model.events.meta.declared.appraisal.Need.{Need}
use Rattle.report_text.specs.model.events.meta.declared.measurement.Template.{Template}
use Rattle.report_text.specs.model.events.meta.declared.step.Who.{Who}
use Rattle.report_text.specs.model.events.policy.RuleValue.{is_any}
use Rattle.report_text.specs.model.events.templates.declared.entry.Placed.{Placed}
use Rattle.report_text.specs.model.events.templates.declared.entry.Placed.TheVariants as placed
use Rattle.report_text.specs.model.events.forms.Words.{is_line}
use Rattle.report_text.proofs.CleanWords.{events_kept}
use Rattle.report_text.proofs.about_forms.Tells.{words_back}
use Rattle.report_words.specs.declared.event.Span.{Span}
use Rattle.report_lines.specs.Lines.{event_of, event_with}
use Rattle.report_words.specs.Outcomes.{outcome_of}
use Rattle.report_read.specs.ReadBack.{EventLinesAreRead, IsSmallDeed, IsSmallTold}
use Rattle.report_read.specs.Short.{short_deed, short_told}
use Rattle.report_read.proofs.DeedsBack.{IsStep, deed_back}
use Rattle.report_read.proofs.OutcomesBack.{says_back}
use Rattle.report_read.proofs.WordsBack.{number_back, who_back}

-- ---- lines have at most 24 words

acts_few : (m a au ha : Bool) (pcr : ℕ) (t : Template) (n : Need)
    → length (or_dash (measure_words m pcr t ++ appraise_words a (is_any n)
    ++ flag_words (codes "audit") au ++ flag_words (codes "hash") ha)) ≤ 6
acts_few true true true true pcr t n = omega arith
acts_few true true true false pcr t n = omega arith
acts_few true true false true pcr t n = omega arith
acts_few true true false false pcr t n = omega arith
acts_few true false true true pcr t n = omega arith
acts_few true false true false pcr t n = omega arith
acts_few true false false true pcr t n = omega arith
acts_few true false false false pcr t n = omega arith
acts_few false true true true pcr t n = omega arith
acts_few false true true false pcr t n = omega arith
acts_few false true false true pcr t n = omega arith
acts_few false true false false pcr t n = omega arith
acts_few false false true true pcr t n = omega arith
acts_few false false true false pcr t n = omega arith
acts_few false false false true pcr t n = omega arith
acts_few false false false false pcr t n = omega arith

rules_few : (g : Bool) (n : ℕ) → length (rules_words g n) ≤ 2
rules_few true n = omega arith
rules_few false n = omega arith

deed_few : (t : Template) (g : Bool) (d : Deed) → length (deed_words t g d) ≤ 11
deed_few t g deed.Birth = omega arith
deed_few t g (deed.Count (how.Read true)) = omega arith
deed_few t g (deed.Count (how.Read false)) = omega arith
deed_few t g (deed.Count (how.Write r true)) = omega arith
deed_few t g (deed.Count (how.Write r false)) = omega arith
deed_few t g (deed.Count how.Exec) = omega arith
deed_few t g (deed.Check file fn a n) =
    omega (
      arith,
      length-append (rules_words g n) (acts_words t a),
      rules_few g n,
      acts_few a.measure a.appraise a.audit a.hash a.pcr (unwrap_or a.template t) a.need,
    )
deed_few t g (deed.Take n) = omega arith
deed_few t g (deed.Chunk n) = omega arith
deed_few t g (deed.Finish n) = omega arith
deed_few t g (deed.Read file from len) = omega arith
deed_few t g (deed.Write file from bytes) = omega arith
deed_few t g (deed.Trunc file len) = omega arith
deed_few t g (deed.SetAttr name bytes admin) = omega arith
deed_few t g (deed.SetMeta (change.Mode mode)) = omega arith
deed_few t g (deed.SetMeta (change.Owner uid gid)) = omega arith
deed_few t g (deed.Close n) = omega arith
deed_few t g (deed.CloseTake n) = omega arith
deed_few t g (deed.CloseChunk n) = omega arith
deed_few t g (deed.CloseFinish n) = omega arith
deed_few t g (deed.Post n) = omega arith
deed_few t g (deed.Wait n) = omega arith

placed_few : (p : Option Placed) → length (placed_words p) ≤ 2
placed_few None = omega arith
placed_few (Some (placed.Added n)) = omega arith
placed_few (Some (placed.Already n)) = omega arith

verdict_few : (v : Option Verdict) → length (verdict_words v) ≤ 2
verdict_few None = omega arith
verdict_few (Some verdict.Pass) = omega arith
verdict_few (Some (verdict.Deny c)) = omega arith

admitted_few : (a l : Bool) → length (admitted_words a l) ≤ 2
admitted_few a true = omega arith
admitted_few a false = omega arith

grant_few : (g : Grant) → length (grant_words g) ≤ 6
grant_few g =
    omega (
      arith,
      length-append (placed_words g.placed ++ verdict_words g.verdict)
          (admitted_words g.admitted g.labelled),
      length-append (placed_words g.placed) (verdict_words g.verdict),
      placed_few g.placed,
      verdict_few g.verdict,
      admitted_few g.admitted g.labelled,
    )

told_few : (o : Told) → length (told_words o) ≤ 6
told_few (told.Image image) = omega arith
told_few told.Held = omega arith
told_few told.NotFound = omega arith
told_few told.TextBusy = omega arith
told_few told.Quiet = omega arith
told_few (told.OpenWriters p) = omega arith
told_few (told.ToMToU p) = omega arith
told_few told.Begun = omega arith
told_few (told.Grant g) = grant_few g
told_few told.More = omega arith
told_few told.Last = omega arith
told_few (told.Read n digest) = omega arith
told_few told.Done = omega arith
told_few told.TooBig = omega arith
told_few told.EvmName = omega arith
told_few told.NotAdmin = omega arith
told_few told.TooLong = omega arith
told_few told.Invalid = omega arith
told_few told.NoData = omega arith
told_few (told.Status s) = omega arith
told_few told.Dropped = omega arith
told_few told.LabelledDropped = omega arith
told_few told.Nothing = omega arith

abbrev made : Template → Bool → Who → Deed → Told → Line
made t g who d o = who_word who ∷ deed_words t g d ++ codes "=" ∷ told_words o

made_few : (t : Template) (g : Bool) (who : Who) (d : Deed) (o : Told)
    → length (made t g who d o) ≤ 19
made_few t g who d o =
    omega (
      arith,
      length-append (deed_words t g d) (codes "=" ∷ told_words o),
      deed_few t g d,
      told_few o,
    )

-- ---- one event

-- what is read of an event's line
abbrev IsReadAs : Template → Bool → ℕ → Span → Who → Deed → Told → Type 0
IsReadAs t g place line who d o =
    event_of place line (take 24 (numeral place ∷ step_words t g who d o))
    ≡ Some (event_with line who (short_deed d) (short_told o))

pub record IsSmallStep (who : Who) (d : Deed) (o : Told) : Type 0 where
  pub task : who.task < 2 ^ 32
  pub call : who.call < 2 ^ 32
  pub step : who.step < 2 ^ 32
  pub deed : IsSmallDeed d
  pub told : IsSmallTold o

made_back : (t : Template) (g : Bool) (place : ℕ) (line : Span) (who : Who) (d : Deed) (o : Told)
    → place < 2 ^ 32 → (place == 0) ≡ false → IsStep d → IsSmallStep who d o
    → outcome_of (short_deed d) (told_words o) ≡ Some (short_told o)
    → event_of place line (numeral place ∷ made t g who d o)
    ≡ Some (event_with line who (short_deed d) (short_told o))
unfolding event_of
made_back t g place line who d o small later step s told =
    rw (
      number_back place small,
      eq-eqb place place refl,
      later,
      who_back who s.task s.call s.step,
      deed_back t g d (told_words o) step s.deed,
      told,
    ) refl

step_back : (t : Template) (g : Bool) (place : ℕ) (line : Span) (who : Who) (d : Deed) (o : Told)
    → place < 2 ^ 32 → (place == 0) ≡ false → IsStep d → IsSmallStep who d o
    → outcome_of (short_deed d) (told_words o) ≡ Some (short_told o)
    → event_of place line (take 24 (numeral place ∷ made t g who d o))
    ≡ Some (event_with line who (short_deed d) (short_told o))
step_back t g place line who d o small later step s told =
    ap (event_of place line)
    (take_all 24 (numeral place ∷ made t g who d o) (omega (arith, made_few t g who d o)))
    ∙ made_back t g place line who d o small later step s told

birth_back : (t : Template) (g : Bool) (line : Span) (inode : Inode)
    → IsReadAs t g 0 line nobody deed.Birth (told.Image inode.birth)
unfolding event_of
birth_back t g line inode =
    ap (event_of 0 line) (take_all 24 (numeral 0 ∷ codes "birth" ∷ []) (omega arith))
    ∙ rw (number_back 0 (omega arith)) refl

later_of : (before : List ModelEvent) (place : ℕ) → place ≡ length before → IsBorn before
    → (place == 0) ≡ false
later_of [] place is born = absurd born
later_of (e ∷ before) place is born = ne_eqb place 0 (λ (z : place ≡ 0). omega (arith, is, z))

-- an event after the birth
after_birth : (t : Template) (g : Bool) (line : Span) (inode : Inode) (before : List ModelEvent)
    (who : Who) (d : Deed) (o : Told) → length before < 2 ^ 32 → IsStep d
    → IsSmallStep who d o
    → IsBorn before → says inode before (placed_in o) d ≡ Some o
    → event_of (length before) line (take 24 (numeral (length before) ∷ made t g who d o))
    ≡ Some (event_with line who (short_deed d) (short_told o))
after_birth t g line inode before who d o small step s born said =
    step_back t g (length before) line who d o small (later_of before (length before) refl born)
    step s (says_back inode before (placed_in o) d o said s.told)

-- the line of an event that may follow these is read as that event
pub event_back : (t : Template) (g : Bool) (line : Span) (inode : Inode)
    (before : List ModelEvent) (who : Who) (d : Deed) (o : Told) → length before < 2 ^ 32
    → Follows inode before who d o → IsSmallStep who d o
    → IsReadAs t g (length before) line who d o
event_back t g line inode before who deed.Birth o small f s =
    subst (λ (b : List ModelEvent). IsReadAs t g (length b) line who deed.Birth o) (sym f.0)
    (subst (λ (w : Who). IsReadAs t g 0 line w deed.Birth o) (sym f.1)
    (subst (λ (x : Told). IsReadAs t g 0 line nobody deed.Birth x) (sym f.2)
    (birth_back t g line inode)))
event_back t g line inode before who (deed.Count h) o small f s =
    after_birth t g line inode before who (deed.Count h) o small tt s f.0 f.2
event_back t g line inode before who (deed.Check file fn a n) o small f s =
    after_birth t g line inode before who (deed.Check file fn a n) o small tt s f.0 f.2
event_back t g line inode before who (deed.Take n) o small f s =
    after_birth t g line inode before who (deed.Take n) o small tt s f.0 f.2
event_back t g line inode before who (deed.Chunk n) o small f s =
    after_birth t g line inode before who (deed.Chunk n) o small tt s f.0 f.2
event_back t g line inode before who (deed.Finish n) o small f s =
    after_birth t g line inode before who (deed.Finish n) o small tt s f.0 f.2
event_back t g line inode before who (deed.Read file from len) o small f s =
    after_birth t g line inode before who (deed.Read file from len) o small tt s f.0 f.2
event_back t g line inode before who (deed.Write file from bytes) o small f s =
    after_birth t g line inode before who (deed.Write file from bytes) o small tt s f.0 f.2
event_back t g line inode before who (deed.Trunc file len) o small f s =
    after_birth t g line inode before who (deed.Trunc file len) o small tt s f.0 f.2
event_back t g line inode before who (deed.SetAttr name bytes admin) o small f s =
    after_birth t g line inode before who (deed.SetAttr name bytes admin) o small tt s f.0 f.2
event_back t g line inode before who (deed.SetMeta c) o small f s =
    after_birth t g line inode before who (deed.SetMeta c) o small tt s f.0 f.2
event_back t g line inode before who (deed.Close n) o small f s =
    after_birth t g line inode before who (deed.Close n) o small tt s f.0 f.2
event_back t g line inode before who (deed.CloseTake n) o small f s =
    after_birth t g line inode before who (deed.CloseTake n) o small tt s f.0 f.2
event_back t g line inode before who (deed.CloseChunk n) o small f s =
    after_birth t g line inode before who (deed.CloseChunk n) o small tt s f.0 f.2
event_back t g line inode before who (deed.CloseFinish n) o small f s =
    after_birth t g line inode before who (deed.CloseFinish n) o small tt s f.0 f.2
event_back t g line inode before who (deed.Post n) o small f s = absurd f.1
event_back t g line inode before who (deed.Wait n) o small f s = absurd f.1

-- ---- its text

pub event_lines_are_read : EventLinesAreRead
event_lines_are_read default grows inode before e line small follows clean s =
    let place : ℕ = length before in
    let kept : is_line (event_words default grows place e) ≡ true =
    (and_parts _ _ (events_kept default grows place (e ∷ []) (clean, tt))).0 in
    ap (λ (ws : Line). event_of place line (take 24 ws))
    (words_back (numeral place) (step_words default grows e.who e.deed e.told) kept)
    ∙ event_back default grows line inode before e.who e.deed e.told small follows
    (record { task = s.task; call = s.call; step = s.step; deed = s.deed; told = s.told })
