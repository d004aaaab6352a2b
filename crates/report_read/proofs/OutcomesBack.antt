-- The words of an outcome that a legal journal has are read back.
use Rattle.std.proofs.Common.{◌≡◌, ℕ, ◌+◌, ◌==◌, Bool, true, false, not, ◌&&◌, ◌||◌, List, [], ◌∷◌, ◌++◌, cond, codes, length, nat_lt, Option, Some, None, nat_le, refl, sym, ap, ◌∙◌, subst, append_assoc, if◌then◌else◌, inl, inr}
use Rattle.std.specs.Prelude.{is_none, is_some}
use Rattle.std.specs.List.{list_any}
use Rattle.std.specs.Str.{bytes_eq}
use Rattle.std.proofs.lemmas.Bool.{cases_Bool, false≢true}
use Rattle.std.proofs.lemmas.Slice.Eq.{bytes_eq-Decides}
use Rattle.report_text.specs.Words.{admitted_words, flag_words, grant_words, placed_words, told_words, verdict_words}
use Rattle.report_text.specs.model.events.Files.{creates, execs, is_exec, is_writer, is_writing, readers, writers}
use Rattle.report_text.specs.model.events.Grants as model
use Rattle.report_text.specs.model.events.Marks.{is_label_due, must_measure}
use Rattle.report_text.specs.model.events.Inode.{Inode}
use Rattle.report_text.specs.model.events.Integrity.{Collection, Digests, attributes, collecting, digest_from, in_force, ima_name}
use Rattle.report_text.specs.model.events.Says.{chunk_told, close_take_told, finish_told, is_no_label, is_too_long, place_of, says, set_attr_told, set_meta_told, status_told, take_told, unless_collecting}
use Rattle.report_text.specs.model.events.State.{content, metadata, new, present}
use Rattle.report_text.specs.model.events.declared.deed.Change.{Change}
use Rattle.report_text.specs.model.events.declared.deed.Deed.{Deed}
use Rattle.report_text.specs.model.events.declared.deed.Deed.TheVariants as deed
use Rattle.report_text.specs.model.events.declared.deed.How.{How}
use Rattle.report_text.specs.model.events.declared.deed.How.TheVariants as how
use Rattle.report_text.specs.model.events.declared.told.Event.{Event}
use Rattle.report_text.specs.model.events.declared.told.Grant.{Grant}
use Rattle.report_text.specs.model.events.declared.told.Told.{Told}
use Rattle.report_text.specs.model.events.declared.told.Told.TheVariants as told
use Rattle.report_text.specs.model.events.evm.Changes.{allows_attr, allows_meta, answered, may_change, protects}
use Rattle.report_text.specs.model.events.evm.Input.{any_present, evm_name, protected_names}
use Rattle.report_text.specs.model.events.evm.Setup.{Setup}
use Rattle.report_text.specs.model.events.evm.Status.{compared, evm_status, status_under}
use Rattle.report_text.specs.model.events.hashes.Digest.{digest_of}
use Rattle.report_text.specs.model.events.hashes.declared.algo.Algo.TheVariants.{Sha256}
use Rattle.report_text.specs.model.events.hashes.declared.digest.Digest.{Digest}
use Rattle.report_text.specs.model.events.labels.declared.verdict.Verdict.{Verdict}
use Rattle.report_text.specs.model.events.labels.declared.verdict.Verdict.TheVariants as verdict
use Rattle.report_text.specs.model.events.meta.declared.appraisal.EvmStatus.{EvmStatus}
use Rattle.report_text.specs.model.events.meta.declared.appraisal.EvmStatus.TheVariants as status
use Rattle.report_text.specs.model.events.meta.declared.identity.Meta.{Meta}
use Rattle.report_text.specs.model.events.pages.Content.{bytes_at, is_last_piece, most_bytes}
use Rattle.report_text.specs.model.events.templates.declared.entry.Placed.{Placed}
use Rattle.report_text.specs.model.events.templates.declared.entry.Placed.TheVariants as placed
use Rattle.report_text.specs.model.events.templates.xattrs.Attrs.{Pair, value}
use Rattle.report_read.specs.ReadBack.{IsSmallPlaced, IsSmallTold}
use Rattle.report_read.specs.Short.{short_deed, short_entry, short_grant, short_placed, short_told, short_verdict}
use Rattle.report_words.specs.Outcomes.{admitted_in, check_outcome, grant_of, labelled_of, outcome_of, placed_in, verdict_in}
use Rattle.report_read.proofs.WordsBack.{cause_is, number_back}

-- ---- grants

admitted_back : (a l : Bool)
    → admitted_in (admitted_words a l) ≡ Some (a, flag_words (codes "labelled") l)
admitted_back true true = refl
admitted_back true false = refl
admitted_back false true = refl
admitted_back false false = refl

labelled_back : (l : Bool) → labelled_of (flag_words (codes "labelled") l) ≡ Some l
labelled_back true = refl
labelled_back false = refl

verdict_back : (v : Option Verdict) (a l : Bool)
    → verdict_in (verdict_words v ++ admitted_words a l)
    ≡ Some (short_verdict v, admitted_words a l)
verdict_back None true l = refl
verdict_back None false l = refl
verdict_back (Some verdict.Pass) a l = refl
verdict_back (Some (verdict.Deny c)) a l = rw (cause_is c) refl

placed_back : (p : Option Placed) (v : Option Verdict) (a l : Bool) → IsSmallPlaced p
    → placed_in (placed_words p ++ (verdict_words v ++ admitted_words a l))
    ≡ Some (short_placed p, short_entry p, verdict_words v ++ admitted_words a l)
placed_back None None true l h = refl
placed_back None None false l h = refl
placed_back None (Some verdict.Pass) a l h = refl
placed_back None (Some (verdict.Deny c)) a l h = refl
placed_back (Some (placed.Added n)) v a l h = rw (number_back n h) refl
placed_back (Some (placed.Already n)) v a l h = rw (number_back n h) refl

grant_back : (g : Grant) → IsSmallPlaced g.placed
    → grant_of (grant_words g) ≡ Some (short_grant g)
grant_back g h =
    ap grant_of (append_assoc (placed_words g.placed) (verdict_words g.verdict)
    (admitted_words g.admitted g.labelled))
    ∙ rw (
      placed_back g.placed g.verdict g.admitted g.labelled h,
      verdict_back g.verdict g.admitted g.labelled,
      admitted_back g.admitted g.labelled,
      labelled_back g.labelled,
    ) refl

-- no grant begins with `begun`
unbegun : (p : Option Placed) (v : Option Verdict) (a l : Bool)
    → outcome_of (short_deed (deed.Take 0))
    ((placed_words p ++ verdict_words v) ++ admitted_words a l)
    ≡ outcome_of (short_deed (deed.Finish 0))
    ((placed_words p ++ verdict_words v) ++ admitted_words a l)
unfolding outcome_of
unbegun None None true true = refl
unbegun None None true false = refl
unbegun None None false true = refl
unbegun None None false false = refl
unbegun None (Some verdict.Pass) a l = refl
unbegun None (Some (verdict.Deny c)) a l = refl
unbegun (Some (placed.Added n)) v a l = refl
unbegun (Some (placed.Already n)) v a l = refl

-- ---- outcomes

-- the words of the outcome are read back, if its numbers are small
abbrev Back : Deed → Told → Type 0
Back d t = IsSmallTold t → outcome_of (short_deed d) (told_words t) ≡ Some (short_told t)

finish_back : (file : ℕ) (g : Grant) → Back (deed.Finish file) (told.Grant g)
unfolding outcome_of
finish_back file g h = rw (grant_back g h) refl

take_back : (file : ℕ) (g : Grant) → Back (deed.Take file) (told.Grant g)
unfolding outcome_of
take_back file g h =
    unbegun g.placed g.verdict g.admitted g.labelled ∙ finish_back file g h

count_back : (h : How) (present w x : Bool)
    → Back (deed.Count h)
    (if not present && not (creates h) then told.NotFound
    else if (is_writer h && x) || (is_exec h && w) then told.TextBusy else told.Held)
unfolding outcome_of
count_back (how.Read true) true w x a = refl
count_back (how.Read true) false w x a = refl
count_back (how.Read false) true w x a = refl
count_back (how.Read false) false w x a = refl
count_back (how.Write true true) true w true a = refl
count_back (how.Write true true) true w false a = refl
count_back (how.Write true true) false w true a = refl
count_back (how.Write true true) false w false a = refl
count_back (how.Write true false) true w true a = refl
count_back (how.Write true false) true w false a = refl
count_back (how.Write true false) false w x a = refl
count_back (how.Write false true) true w true a = refl
count_back (how.Write false true) true w false a = refl
count_back (how.Write false true) false w true a = refl
count_back (how.Write false true) false w false a = refl
count_back (how.Write false false) true w true a = refl
count_back (how.Write false false) true w false a = refl
count_back (how.Write false false) false w x a = refl
count_back how.Exec true true x a = refl
count_back how.Exec true false x a = refl
count_back how.Exec false w x a = refl

check_back : (d : Deed) (writing r w : Bool) (place : ℕ)
    → ((t : Told) → outcome_of (short_deed d) (told_words t) ≡ check_outcome (told_words t))
    → Back d
    (if writing then (if r then told.ToMToU place else told.Quiet)
    else (if w then told.OpenWriters place else told.Quiet))
check_back d true true w place is a =
    is (told.ToMToU place) ∙ rw (number_back place a) refl
check_back d true false w place is a = is told.Quiet
check_back d false r true place is a =
    is (told.OpenWriters place) ∙ rw (number_back place a) refl
check_back d false r false place is a = is told.Quiet

two_back : (d : Deed) (t u : Told) (b : Bool) → Back d t → Back d u → Back d (cond b t u)
two_back d t u true x y = x
two_back d t u false x y = y

read_back : (file from len n : ℕ) (digest : Digest)
    → Back (deed.Read file from len) (told.Read n digest)
unfolding outcome_of
read_back file from len n digest a = rw (number_back n a) refl

-- ---- changes of attributes and metadata

set_back : (name bytes : List ℕ) (admin : Bool) (e : Told) (b1 b2 b3 b4 b5 : Bool)
    → Back (deed.SetAttr name (Some bytes) admin) e
    → Back (deed.SetAttr name (Some bytes) admin)
    (if b1 then told.NotFound else if b2 then told.EvmName else if b3 then told.NotAdmin
    else if b4 then told.TooLong else if b5 then told.Invalid else e)
unfolding outcome_of
set_back name bytes admin e true b2 b3 b4 b5 k x = refl
set_back name bytes admin e false true b3 b4 b5 k x = refl
set_back name bytes admin e false false true b4 b5 k x = refl
set_back name bytes admin e false false false true b5 k x = refl
set_back name bytes admin e false false false false true k x = refl
set_back name bytes admin e false false false false false k x = k x

set_status_back : (name bytes : List ℕ) (admin free : Bool) (s : EvmStatus) (fresh : Bool)
    → Back (deed.SetAttr name (Some bytes) admin)
    (status_told (answered (free || allows_attr s fresh) s))
unfolding outcome_of
set_status_back name bytes admin true s fresh x = refl
set_status_back name bytes admin false status.Pass fresh x = refl
set_status_back name bytes admin false status.NoXattrs true x = refl
set_status_back name bytes admin false status.NoXattrs false x = refl
set_status_back name bytes admin false status.NoLabel fresh x = refl
set_status_back name bytes admin false status.Fail fresh x = refl
set_status_back name bytes admin false status.Old fresh x = refl
set_status_back name bytes admin false status.Unknown fresh x = refl

removal_back : (name : List ℕ) (admin : Bool) (e : Told) (b1 b2 b3 b4 b5 : Bool)
    → (b5 ≡ false → Back (deed.SetAttr name None admin) e)
    → Back (deed.SetAttr name None admin)
    (if b1 then told.NotFound else if b2 then told.EvmName else if b3 then told.NotAdmin
    else if b4 && false then told.Invalid else if b5 then told.NoData else e)
unfolding outcome_of
removal_back name admin e true b2 b3 b4 b5 k x = refl
removal_back name admin e false true b3 b4 b5 k x = refl
removal_back name admin e false false true b4 b5 k x = refl
removal_back name admin e false false false true true k x = refl
removal_back name admin e false false false false true k x = refl
removal_back name admin e false false false true false k x = k refl x
removal_back name admin e false false false false false k x = k refl x

removal_status_back : (name : List ℕ) (admin free : Bool) (s : EvmStatus) (fresh : Bool)
    → (free ≡ false → s ≡ status.NoXattrs → ⊥)
    → Back (deed.SetAttr name None admin) (status_told (answered (free || allows_attr s fresh) s))
unfolding outcome_of
removal_status_back name admin true s fresh k x = refl
removal_status_back name admin false status.Pass fresh k x = refl
removal_status_back name admin false status.NoXattrs fresh k x = absurd (k refl refl)
removal_status_back name admin false status.NoLabel fresh k x = refl
removal_status_back name admin false status.Fail fresh k x = refl
removal_status_back name admin false status.Old fresh k x = refl
removal_status_back name admin false status.Unknown fresh k x = refl

meta_back : (c : Change) (absent : Bool) (s : EvmStatus)
    → Back (deed.SetMeta c)
    (if absent then told.NotFound else status_told (answered (allows_meta s) s))
unfolding outcome_of
meta_back c true s x = refl
meta_back c false status.Pass x = refl
meta_back c false status.NoXattrs x = refl
meta_back c false status.NoLabel x = refl
meta_back c false status.Fail x = refl
meta_back c false status.Old x = refl
meta_back c false status.Unknown x = refl

-- ---- the status of an inode with a protected attribute

compared_bare : (v : Option (List ℕ)) (now old : List ℕ)
    → compared v now old ≡ status.NoXattrs → ⊥
compared_bare None now old h = cc
compared_bare (Some bytes) now old h = elim (cases_Bool (bytes_eq bytes now)) [
  | inl e ↦ let no : status.Pass ≡ status.NoXattrs = rw e at h in cc
  | inr e ↦
      let on = rw e at h in
      elim (cases_Bool (bytes_eq bytes old)) [
        | inl f ↦ let no : status.Old ≡ status.NoXattrs = rw f at on in cc
        | inr f ↦ let no : status.Fail ≡ status.NoXattrs = rw f at on in cc
      ]
]

bare_by : (key : Option (List ℕ)) (evm : Setup) (attrs : List Pair) (meta : Meta)
    → any_present (protected_names evm) attrs ≡ true
    → status_under key evm attrs meta ≡ status.NoXattrs → ⊥
bare_by None evm attrs meta some h = cc
bare_by (Some key) evm attrs meta some h =
    compared_bare (value evm_name attrs) _ _ (rw some at h)

or_right : (a b : Bool) → b ≡ true → (a || b) ≡ true
or_right true b h = refl
or_right false b h = h

present_by : (names : List (List ℕ)) (name v : List ℕ) (attrs : List Pair)
    → list_any (bytes_eq name) names ≡ true → value name attrs ≡ Some v
    → any_present names attrs ≡ true
present_by [] name v attrs h k = absurd (false≢true h)
present_by (n ∷ names) name v attrs h k = elim (cases_Bool (bytes_eq name n)) [
  | inl e ↦
      let same : name ≡ n = (bytes_eq-Decides name n).0 e in
      let here : value n attrs ≡ Some v
      = subst (λ (m : List ℕ). value m attrs ≡ Some v) same k in
      rw here refl
  | inr e ↦
      let rest : list_any (bytes_eq name) names ≡ true = rw e at h in
      or_right (is_some (value n attrs)) (any_present names attrs)
      (present_by names name v attrs rest k)
]

not_free : (b : Bool) → not b ≡ false → b ≡ true
not_free true h = refl
not_free false h = absurd (false≢true (sym h))

some_value : (o : Option (List ℕ)) → is_none o ≡ false → (v : List ℕ) × (o ≡ Some v)
some_value None h = absurd (false≢true (sym h))
some_value (Some v) h = (v, refl)

not_bare : (evm : Setup) (name : List ℕ) (attrs : List Pair) (meta : Meta)
    → is_none (value name attrs) ≡ false → not (protects evm name) ≡ false
    → evm_status evm attrs meta ≡ status.NoXattrs → ⊥
not_bare evm name attrs meta has locked h =
    let v = some_value (value name attrs) has in
    bare_by evm.key evm attrs meta
    (present_by (protected_names evm) name v.0 attrs (not_free (protects evm name) locked) v.1) h

-- ---- all deeds

from_some : (F : Told → Type 0) (t u : Told) → Some t ≡ Some u → F t → F u
from_some F t u h x = let same : t ≡ u = cc h in subst F same x

unless_some : (c : Option Collection) (t u : Told) → unless_collecting c t ≡ Some u
    → Some t ≡ Some u
unless_some None t u h = h
unless_some (Some c) t u h = absurd (cc h)

chunk_some : (d : Deed) (bytes : List ℕ) (c : Option Collection) (t : Told) → Back d told.Last
    → Back d told.More → chunk_told bytes c ≡ Some t → Back d t
chunk_some d bytes None t x y h = absurd (cc h)
chunk_some d bytes (Some c) t x y h =
    from_some (Back d) _ t h (two_back d told.Last told.More (is_last_piece bytes c.pieces) x y)

finish_some : (inode : Inode) (file : ℕ) (p : Placed) (c : Option Collection)
    (before : List Event) (t : Told) → finish_told inode file p c before ≡ Some t
    → Back (deed.Finish file) t
finish_some inode file p None before t h = absurd (cc h)
finish_some inode file p (Some c) before t h =
    from_some (Back (deed.Finish file)) _ t h
    (finish_back file (model.grant_of inode file p (digest_from c) before))

take_some : (inode : Inode) (file : ℕ) (p : Placed) (f : Option Digests) (before : List Event)
    → Back (deed.Take file) (take_told inode file p f before)
unfolding outcome_of
take_some inode file p None before x = refl
take_some inode file p (Some f) before x =
    take_back file (model.grant_of inode file p f.digest before) x

-- the words of the outcome that a journal determines are read back
pub says_back : (inode : Inode) (before : List Event) (p : Placed) (d : Deed) (t : Told)
    → says inode before p d ≡ Some t → Back d t
unfolding outcome_of
says_back inode before p deed.Birth t h = absurd (cc h)
says_back inode before p (deed.Count how) t h =
    from_some (Back (deed.Count how)) _ t h
    (count_back how (present before) (nat_lt 0 (writers before)) (nat_lt 0 (execs before)))
says_back inode before p (deed.Check file fn act n) t h =
    from_some (Back (deed.Check file fn act n)) _ t h
    (check_back (deed.Check file fn act n) (is_writing file before)
    (nat_lt 0 (readers before) && must_measure before)
    (act.measure && nat_lt 0 (writers before)) (place_of p) (λ o. refl))
says_back inode before p (deed.Take file) t h =
    from_some (Back (deed.Take file)) (take_told inode file p (in_force inode before) before) t
    (unless_some (collecting inode before)
    (take_told inode file p (in_force inode before) before) t h)
    (take_some inode file p (in_force inode before) before)
says_back inode before p (deed.Chunk file) t h =
    chunk_some (deed.Chunk file) (content before) (collecting inode before) t (λ x. refl)
    (λ x. refl) h
says_back inode before p (deed.Finish file) t h =
    finish_some inode file p (collecting inode before) before t h
says_back inode before p (deed.Read file from len) t h =
    from_some (Back (deed.Read file from len)) _ t h
    (read_back file from len (length (bytes_at (content before) from len))
    (digest_of Sha256 (bytes_at (content before) from len)))
says_back inode before p (deed.Write file from bytes) t h =
    from_some (Back (deed.Write file from bytes)) _ t h
    (two_back (deed.Write file from bytes) told.Done told.TooBig
    (nat_le (from + length bytes) most_bytes) (λ x. refl) (λ x. refl))
says_back inode before p (deed.Trunc file len) t h =
    from_some (Back (deed.Trunc file len)) _ t h
    (two_back (deed.Trunc file len) told.Done told.TooBig (nat_le len most_bytes) (λ x. refl)
    (λ x. refl))
says_back inode before p (deed.SetAttr name None admin) t h =
    from_some (Back (deed.SetAttr name None admin)) (set_attr_told inode name None admin before) t
    (unless_some (collecting inode before) (set_attr_told inode name None admin before) t h)
    (removal_back name admin
    (status_told (may_change inode.settings.evm name (attributes inode before)
    (metadata before) (new before)))
    (not (present before)) (bytes_eq name evm_name) (bytes_eq name ima_name && not admin)
    (bytes_eq name ima_name) (is_none (value name (attributes inode before)))
    (λ has. removal_status_back name admin (not (protects inode.settings.evm name))
    (evm_status inode.settings.evm (attributes inode before) (metadata before)) (new before)
    (λ locked. not_bare inode.settings.evm name (attributes inode before) (metadata before) has
    locked)))
says_back inode before p (deed.SetAttr name (Some bytes) admin) t h =
    from_some (Back (deed.SetAttr name (Some bytes) admin))
    (set_attr_told inode name (Some bytes) admin before) t
    (unless_some (collecting inode before) (set_attr_told inode name (Some bytes) admin before) t
    h)
    (set_back name bytes admin
    (status_told (may_change inode.settings.evm name (attributes inode before)
    (metadata before) (new before)))
    (not (present before)) (bytes_eq name evm_name) (bytes_eq name ima_name && not admin)
    (is_too_long (Some bytes)) (bytes_eq name ima_name && is_no_label (Some bytes))
    (set_status_back name bytes admin (not (protects inode.settings.evm name))
    (evm_status inode.settings.evm (attributes inode before) (metadata before)) (new before)))
says_back inode before p (deed.SetMeta c) t h =
    from_some (Back (deed.SetMeta c)) (set_meta_told inode before) t
    (unless_some (collecting inode before) (set_meta_told inode before) t h)
    (meta_back c (not (present before))
    (evm_status inode.settings.evm (attributes inode before) (metadata before)))
says_back inode before p (deed.Close file) t h =
    from_some (Back (deed.Close file)) _ t h (λ x. refl)
says_back inode before p (deed.CloseTake file) t h =
    from_some (Back (deed.CloseTake file))
    (close_take_told (is_label_due inode before) (writers before)) t
    (unless_some (collecting inode before)
    (close_take_told (is_label_due inode before) (writers before)) t h)
    (two_back (deed.CloseTake file) told.Begun told.Dropped
    ((writers before == 1) && is_label_due inode before) (λ x. refl) (λ x. refl))
says_back inode before p (deed.CloseChunk file) t h =
    chunk_some (deed.CloseChunk file) (content before) (collecting inode before) t (λ x. refl)
    (λ x. refl) h
says_back inode before p (deed.CloseFinish file) t h =
    from_some (Back (deed.CloseFinish file)) _ t h
    (two_back (deed.CloseFinish file) told.LabelledDropped told.Dropped (writers before == 1)
    (λ x. refl) (λ x. refl))
says_back inode before p (deed.Post sem) t h = absurd (cc h)
says_back inode before p (deed.Wait sem) t h = absurd (cc h)
