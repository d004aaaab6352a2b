-- No word of a report has a space or a newline in it.
use Rattle.std.proofs.Common.{◌≡◌, ℕ, ◌<◌, ◌^◌, ◌+◌, ◌/◌, ◌%◌, zero, suc, Bool, true, false, List, [], ◌∷◌, ◌++◌, length, codes, Option, Some, None, unwrap_or, refl, arith}
use Rattle.std.specs.Prelude.{slice_index}
use Rattle.report_events.specs.Numerals.{numeral}
use Rattle.std.specs.Fmt.{digits}
use Rattle.std.specs.List.{AllByRecursion, list_all}
use Rattle.std.proofs.lemmas.Bool.{and_parts}
use Rattle.std.proofs.lemmas.Bool.Decides.{nat_tests}
use Rattle.std.proofs.lemmas.List.Folds.{list_all-append}
use Rattle.hex.specs.Hex.{encode_lower, encode_with, lower_digits}
use Rattle.hash_algos.specs.Algo.{algo_name}
use Rattle.hash_algos.specs.declared.algo.Algo.{Algo}
use Rattle.hash_algos.specs.declared.algo.Algo.TheVariants as algo
use Rattle.inode_meta.specs.declared.appraisal.EvmStatus.{EvmStatus}
use Rattle.inode_meta.specs.declared.appraisal.EvmStatus.TheVariants as evm
use Rattle.inode_meta.specs.declared.measurement.Template.{Template}
use Rattle.inode_meta.specs.declared.measurement.Template.TheVariants.{Ima, ImaNg, ImaSig, ImaBuf}
use Rattle.inode_meta.specs.declared.step.Who.{Who}
use Rattle.inode_meta.specs.Words.{evm_status_word, template_word}
use Rattle.label_values.specs.Verdicts.{cause_word}
use Rattle.label_values.specs.declared.verdict.Cause.{Cause}
use Rattle.label_values.specs.declared.verdict.Cause.TheVariants as cause
use Rattle.label_values.specs.declared.verdict.Verdict.{Verdict}
use Rattle.label_values.specs.declared.verdict.Verdict.TheVariants.{Pass, Deny}
use Rattle.ima_templates.specs.declared.entry.Placed.{Placed}
use Rattle.ima_templates.specs.declared.entry.Placed.TheVariants.{Added, Already}
use Rattle.policy_text.specs.rules.RuleValue.{is_any}
use Rattle.policy_text.specs.rules.ValueTexts.{func_word}
use Rattle.policy_text.specs.rules.declared.rule.Func.{Func}
use Rattle.policy_text.proofs.ValuesAgain.{func_again}
use Rattle.text_forms.specs.Words.{is_visible, is_clean, is_clean_byte, is_line}
use Rattle.text_forms.proofs.Visible.{all_weaker, visible-digits}
use Rattle.inode_events.specs.declared.deed.Change.{Change}
use Rattle.inode_events.specs.declared.deed.Change.TheVariants as change
use Rattle.inode_events.specs.declared.deed.Deed.{Deed}
use Rattle.inode_events.specs.declared.deed.Deed.TheVariants as deed
use Rattle.inode_events.specs.declared.deed.How.{How}
use Rattle.inode_events.specs.declared.deed.How.TheVariants as how
use Rattle.inode_events.specs.declared.told.Event.{Event}
use Rattle.inode_events.specs.declared.told.Told.{Told}
use Rattle.inode_events.specs.declared.told.Told.TheVariants as told
use Rattle.report_events.specs.Words.{Line, who_word, how_words, measure_words, appraise_words, flag_words, or_dash, acts_words, rules_words, length_word, change_words, deed_words, placed_words, verdict_words, admitted_words, told_words, step_words, event_lines}
use Rattle.report_text.specs.Ranges.{IsChange, IsDeed}
use Rattle.report_events.proofs.Numerals.{numeral_clean}

-- ---- small words

visible_kept : (b : ℕ) → is_visible b ≡ true → is_clean_byte b ≡ true
visible_kept b h = grind (arith, nat_tests)

pub visible : (w : List ℕ) → list_all is_visible w ≡ true → is_clean w ≡ true
visible w h = all_weaker is_visible is_clean_byte visible_kept w h

pub number_kept : (n : ℕ) → is_clean (numeral n) ≡ true
number_kept n = numeral_clean n

pub octal_kept : (n : ℕ) → n < 2 ^ 64 → is_clean (digits 8 false n) ≡ true
octal_kept n h =
    visible (digits 8 false n) (visible-digits 8 n (omega arith) (omega arith) (omega (arith, h)))

pub picked : (p : ℕ → Bool) (xs : List ℕ) (i : ℕ) → list_all p xs ≡ true → p 0 ≡ true
    → p (slice_index xs i) ≡ true
picked p [] i h z = z
picked p (x ∷ xs) zero h z = (and_parts _ _ h).0
picked p (x ∷ xs) (suc i) h z = picked p xs i (and_parts _ _ h).1 z

-- hexadecimal digits are clean, for any list: a number that isn't a byte has zeros as its digits
pub hex_kept : (bs : List ℕ) → is_clean (encode_lower bs) ≡ true
unfolding encode_with
hex_kept [] = refl
hex_kept (b ∷ bs) =
    rw (
      picked is_clean_byte lower_digits (b / 16) refl refl,
      picked is_clean_byte lower_digits (b % 16) refl refl,
    ) (hex_kept bs)

pub append_kept : (a b : List ℕ) → is_clean a ≡ true → is_clean b ≡ true → is_clean (a ++ b) ≡ true
append_kept a b h k = rw (list_all-append is_clean_byte a b, h, k) refl

pub template_kept : (t : Template) → is_clean (template_word t) ≡ true
template_kept Ima = refl
template_kept ImaNg = refl
template_kept ImaSig = refl
template_kept ImaBuf = refl

pub algo_kept : (a : Algo) → is_clean (algo_name a) ≡ true
algo_kept algo.Md5 = refl
algo_kept algo.Sha1 = refl
algo_kept algo.Sha256 = refl
algo_kept algo.Sha384 = refl
algo_kept algo.Sha512 = refl
algo_kept algo.Sha224 = refl

pub cause_kept : (c : Cause) → is_clean (cause_word c) ≡ true
cause_kept cause.DeniedHashAlgorithm = refl
cause_kept cause.SignatureRequired = refl
cause_kept cause.MissingHash = refl
cause_kept cause.MissingHmac = refl
cause_kept cause.InvalidHmac = refl
cause_kept cause.UnsupportedSignature = refl
cause_kept cause.UnknownData = refl
cause_kept cause.InvalidHash = refl

pub status_kept : (s : EvmStatus) → is_clean (evm_status_word s) ≡ true
status_kept evm.Pass = refl
status_kept evm.NoXattrs = refl
status_kept evm.NoLabel = refl
status_kept evm.Fail = refl
status_kept evm.Old = refl
status_kept evm.Unknown = refl

func_kept : (f : Func) → is_clean (func_word f) ≡ true
func_kept f = visible (func_word f) (func_again f).0

pub who_kept : (w : Who) → is_clean (who_word w) ≡ true
who_kept w =
    append_kept (numeral w.task) (46 ∷ (numeral w.call ++ 46 ∷ numeral w.step))
    (number_kept w.task)
    (append_kept (numeral w.call) (46 ∷ numeral w.step) (number_kept w.call) (number_kept w.step))

-- ---- lists of words

pub row_append : (a b : Line) → list_all is_clean a ≡ true → list_all is_clean b ≡ true
    → list_all is_clean (a ++ b) ≡ true
row_append a b h k = rw (list_all-append is_clean a b, h, k) refl

how_kept : (h : How) → list_all is_clean (how_words h) ≡ true
how_kept (how.Read true) = refl
how_kept (how.Read false) = refl
how_kept (how.Write true true) = refl
how_kept (how.Write true false) = refl
how_kept (how.Write false true) = refl
how_kept (how.Write false false) = refl
how_kept how.Exec = refl

measure_kept : (m : Bool) (pcr : ℕ) (t : Template)
    → list_all is_clean (measure_words m pcr t) ≡ true
measure_kept true pcr t = rw (number_kept pcr, template_kept t) refl
measure_kept false pcr t = refl

appraise_kept : (a any : Bool) → list_all is_clean (appraise_words a any) ≡ true
appraise_kept true true = refl
appraise_kept true false = refl
appraise_kept false any = refl

flag_kept : (w : List ℕ) (b : Bool) → is_clean w ≡ true → list_all is_clean (flag_words w b) ≡ true
flag_kept w true h = rw h refl
flag_kept w false h = refl

dash_kept : (ws : Line) → list_all is_clean ws ≡ true → list_all is_clean (or_dash ws) ≡ true
dash_kept [] h = refl
dash_kept (w ∷ ws) h = h

rules_kept : (g : Bool) (n : ℕ) → list_all is_clean (rules_words g n) ≡ true
rules_kept true n = rw (number_kept n) refl
rules_kept false n = refl

length_kept : (o : Option (List ℕ)) → is_clean (length_word o) ≡ true
length_kept None = refl
length_kept (Some b) = number_kept (length b)

change_kept : (c : Change) → IsChange c → list_all is_clean (change_words c) ≡ true
change_kept (change.Mode m) h = rw (octal_kept m h) refl
change_kept (change.Owner u g) h = rw (number_kept u, number_kept g) refl

deed_kept : (t : Template) (g : Bool) (d : Deed) → IsDeed d → list_all is_clean (deed_words t g d)
    ≡ true
deed_kept t g deed.Birth h = refl
deed_kept t g (deed.Count how) h = how_kept how
deed_kept t g (deed.Check file f a n) h =
    let acts = dash_kept (measure_words a.measure a.pcr (unwrap_or a.template t)
    ++ appraise_words a.appraise (is_any a.need) ++ flag_words (codes "audit") a.audit
    ++ flag_words (codes "hash") a.hash)
    (row_append (measure_words a.measure a.pcr (unwrap_or a.template t)
    ++ appraise_words a.appraise (is_any a.need) ++ flag_words (codes "audit") a.audit)
    (flag_words (codes "hash") a.hash)
    (row_append (measure_words a.measure a.pcr (unwrap_or a.template t)
    ++ appraise_words a.appraise (is_any a.need)) (flag_words (codes "audit") a.audit)
    (row_append (measure_words a.measure a.pcr (unwrap_or a.template t))
    (appraise_words a.appraise (is_any a.need))
    (measure_kept a.measure a.pcr (unwrap_or a.template t))
    (appraise_kept a.appraise (is_any a.need)))
    (flag_kept (codes "audit") a.audit refl)) (flag_kept (codes "hash") a.hash refl)) in
    rw (number_kept file, func_kept f)
    (row_append (rules_words g n) (acts_words t a) (rules_kept g n) acts)
deed_kept t g (deed.Read file from len) h =
    rw (number_kept file, number_kept from, number_kept len) refl
deed_kept t g (deed.Write file from bytes) h =
    rw (number_kept file, number_kept from, number_kept (length bytes)) refl
deed_kept t g (deed.Trunc file len) h = rw (number_kept file, number_kept len) refl
deed_kept t g (deed.SetAttr name bytes admin) h = rw (h, length_kept bytes) refl
deed_kept t g (deed.SetMeta c) h = change_kept c h
deed_kept t g (deed.Take n) h = rw (number_kept n) refl
deed_kept t g (deed.Chunk n) h = rw (number_kept n) refl
deed_kept t g (deed.Finish n) h = rw (number_kept n) refl
deed_kept t g (deed.Close n) h = rw (number_kept n) refl
deed_kept t g (deed.CloseTake n) h = rw (number_kept n) refl
deed_kept t g (deed.CloseChunk n) h = rw (number_kept n) refl
deed_kept t g (deed.CloseFinish n) h = rw (number_kept n) refl
deed_kept t g (deed.Post n) h = rw (number_kept n) refl
deed_kept t g (deed.Wait n) h = rw (number_kept n) refl

placed_kept : (p : Option Placed) → list_all is_clean (placed_words p) ≡ true
placed_kept None = refl
placed_kept (Some (Added n)) = rw (number_kept n) refl
placed_kept (Some (Already n)) = rw (number_kept n) refl

verdict_kept : (v : Option Verdict) → list_all is_clean (verdict_words v) ≡ true
verdict_kept None = refl
verdict_kept (Some Pass) = refl
verdict_kept (Some (Deny c)) = rw (cause_kept c) refl

admitted_kept : (a l : Bool) → list_all is_clean (admitted_words a l) ≡ true
admitted_kept true true = refl
admitted_kept true false = refl
admitted_kept false true = refl
admitted_kept false false = refl

told_kept : (t : Told) → list_all is_clean (told_words t) ≡ true
told_kept (told.Image image) = refl
told_kept told.Held = refl
told_kept told.NotFound = refl
told_kept told.TextBusy = refl
told_kept told.Quiet = refl
told_kept told.Begun = refl
told_kept told.More = refl
told_kept told.Last = refl
told_kept told.Done = refl
told_kept told.TooBig = refl
told_kept told.EvmName = refl
told_kept told.NotAdmin = refl
told_kept told.TooLong = refl
told_kept told.Invalid = refl
told_kept told.NoData = refl
told_kept told.Dropped = refl
told_kept told.LabelledDropped = refl
told_kept told.Nothing = refl
told_kept (told.OpenWriters n) = rw (number_kept n) refl
told_kept (told.ToMToU n) = rw (number_kept n) refl
told_kept (told.Status s) = rw (status_kept s) refl
told_kept (told.Read n d) = rw (number_kept n) refl
told_kept (told.Grant g) =
    row_append (placed_words g.placed ++ verdict_words g.verdict)
    (admitted_words g.admitted g.labelled)
    (row_append (placed_words g.placed) (verdict_words g.verdict) (placed_kept g.placed)
    (verdict_kept g.verdict)) (admitted_kept g.admitted g.labelled)

made_kept : (t : Template) (g : Bool) (who : Who) (d : Deed) (o : Told) → IsDeed d
    → list_all is_clean (who_word who ∷ deed_words t g d ++ codes "=" ∷ told_words o) ≡ true
made_kept t g who d o hd =
    rw (who_kept who)
    (row_append (deed_words t g d) (codes "=" ∷ told_words o) (deed_kept t g d hd) (told_kept o))

step_kept : (t : Template) (g : Bool) (who : Who) (d : Deed) (o : Told) → IsDeed d
    → list_all is_clean (step_words t g who d o) ≡ true
step_kept t g who deed.Birth o hd = refl
step_kept t g who (deed.Count h) o hd = made_kept t g who (deed.Count h) o hd
step_kept t g who (deed.Check f fn a n) o hd =
    made_kept t g who (deed.Check f fn a n) o hd
step_kept t g who (deed.Read f o2 n) o hd = made_kept t g who (deed.Read f o2 n) o hd
step_kept t g who (deed.Write f o2 b) o hd = made_kept t g who (deed.Write f o2 b) o hd
step_kept t g who (deed.Trunc f n) o hd = made_kept t g who (deed.Trunc f n) o hd
step_kept t g who (deed.SetAttr n b a) o hd =
    made_kept t g who (deed.SetAttr n b a) o hd
step_kept t g who (deed.SetMeta c) o hd = made_kept t g who (deed.SetMeta c) o hd
step_kept t g who (deed.Take n) o hd = made_kept t g who (deed.Take n) o hd
step_kept t g who (deed.Chunk n) o hd = made_kept t g who (deed.Chunk n) o hd
step_kept t g who (deed.Finish n) o hd = made_kept t g who (deed.Finish n) o hd
step_kept t g who (deed.Close n) o hd = made_kept t g who (deed.Close n) o hd
step_kept t g who (deed.CloseTake n) o hd = made_kept t g who (deed.CloseTake n) o hd
step_kept t g who (deed.CloseChunk n) o hd = made_kept t g who (deed.CloseChunk n) o hd
step_kept t g who (deed.CloseFinish n) o hd =
    made_kept t g who (deed.CloseFinish n) o hd
step_kept t g who (deed.Post n) o hd = made_kept t g who (deed.Post n) o hd
step_kept t g who (deed.Wait n) o hd = made_kept t g who (deed.Wait n) o hd

pub events_kept : (t : Template) (g : Bool) (k : ℕ) (es : List Event)
    → AllByRecursion (λ (e : Event). IsDeed e.deed) es → list_all is_line (event_lines t g k es)
    ≡ true
events_kept t g k [] h = refl
events_kept t g k (e ∷ es) h =
    rw (number_kept k, step_kept t g e.who e.deed e.told h.0) (events_kept t g (k + 1) es h.1)
