use Rattle.std.proofs.Common.{◌≡◌, ◌<◌, ◌≤◌, ◌∙◌, ℕ, zero, suc, Bool, List}
use Rattle.std.proofs.Common.{[], ◌∷◌, Option, Some, None, Result, Err}
use Rattle.std.proofs.Common.{length, get_or, slice_get, ok_or, refl, sym, ap, subst, rules, arith}
use Rattle.std.proofs.lemmas.Option.{slice_get_read}
use Rattle.policy_text.specs.rules.declared.access.Super.{Super}
use Rattle.text_forms.specs.Lines.{◌>>=◌}
use Rattle.script_words.specs.Forms.{place_among}
use Rattle.script_words.specs.Gives.{LineMakes}
use Rattle.script_words.specs.declared.fault.LineCause.{LineCause}
use Rattle.script_words.specs.declared.fault.LineCause.TheVariants as cause
use Rattle.script_words.specs.declared.fault.LineErr.{LineErr}
use Rattle.script_fields.specs.FileFields.{Front}
use Rattle.script_fields.specs.FrontView.{front_view}
use Rattle.script_text.specs.Draft.{Draft}
use Rattle.script_text.specs.Files.{block_of, on_super, with_block, with_front}
use Rattle.script_text.specs.Settings.{Made}
use Rattle.script_text.specs.contracts.draft.Draft.{the_view}
use Rattle.script_text.specs.declared.blocks.FileBlock.{FileBlock}
use Rattle.script_text.proofs.Memory.{out_of_memory}
use Rattle.script_text.proofs.draft.Draft.with_front.Goals as goal

-- a file on the file system that its front names is added with that file system's place
front_placed : (r : Result (Unit {0}) (LineErr LineCause)) (new : Draft) (f : Front)
    (present : Bool) (content : List ℕ) (x d : Draft) (n : ℕ) (s : Super) (b : FileBlock) → x ≡ d
    → place_among (length x.script.supers) f.fs ≡ Some n → slice_get x.script.supers n ≡ Some s
    → b ≡ block_of f n s present content → LineMakes r (with_block b d) new
    → LineMakes r (with_front f present content d) new
front_placed r new f present content x d n s b v p g e h =
    let named = ap (on_super f present content x) p in
    let there = ap (λ (o : Option Super). ok_or o cause.Unknown
    >>= λ t. with_block (block_of f n t present content) x) g in
    let same : with_front f present content x ≡ with_block b x =
    named ∙ there ∙ sym (ap (λ (k : FileBlock). with_block k x) e) in
    subst (λ (m : Made). LineMakes r m new)
    (sym (subst (λ (y : Draft). with_front f present content y ≡ with_block b y) v same)) h

module _ (f : Front) (present : Bool) (content : List ℕ) (x d : Draft) (same : x ≡ d) where
  -- a file on a file system that isn't there is refused
  front_unnamed : place_among (length x.script.supers) f.fs ≡ None
      → with_front f present content d ≡ Err cause.Unknown
  front_unnamed p =
      subst (λ (y : Draft). with_front f present content y ≡ Err cause.Unknown) same
      (ap (on_super f present content x) p)

  -- the same, if no file system has the place
  front_missing : (n : ℕ) → place_among (length x.script.supers) f.fs ≡ Some n
      → slice_get x.script.supers n ≡ None → with_front f present content d ≡ Err cause.Unknown
  front_missing n p g =
      subst (λ (y : Draft). with_front f present content y ≡ Err cause.Unknown) same
      (ap (on_super f present content x) p ∙ ap (λ (o : Option Super). ok_or o cause.Unknown
      >>= λ t. with_block (block_of f n t present content) x) g)

-- there is no element past the end
past_none : {A : Type 0} (xs : List A) (k : ℕ) → length xs ≤ k → slice_get xs k ≡ None
past_none [] k le = refl
past_none (x ∷ xs) zero le = absurd (omega (arith, le))
past_none (x ∷ xs) (suc k) le = past_none xs k (omega (arith, le))

pub returns-in_default : goal.returns-in_default
returns-in_default c =
    let count : c.len.result ≡ length c.self.inside.supers.items = search rules in
    front_unnamed (front_view c.args.front.now) c.args.present c.args.content
    (the_view c.self.inside) c.args.self.now c.self.view_is
    (rw (← count) (sym c.in_default.ensures))

pub returns-in_default-get : goal.returns-in_default-get
returns-in_default-get c =
    let count : c.len.result ≡ length c.self.inside.supers.items = search rules in
    let past : length c.deref.result.now ≤ c.in-Some.fs = search rules in
    let none : slice_get c.self.inside.supers.items c.in-Some.fs ≡ None =
    rw (← c.deref.ensures.value) (past_none _ _ past) in
    front_missing (front_view c.args.front.now) c.args.present c.args.content
    (the_view c.self.inside) c.args.self.now c.self.view_is c.in-Some.fs
    (rw (← count) (sym c.in-Some.ensures)) none

pub returns-in_err-block : goal.returns-in_err-block
returns-in_err-block c = out_of_memory c.from_residual.result _ _ c.from_residual.ensures.1

pub returns : goal.returns
returns c =
    let count : c.len.result ≡ length c.self.inside.supers.items = search rules in
    let named : place_among (length c.self.inside.supers.items) c.args.front.now.fs.now
    ≡ Some c.in-Some.fs = rw (← count) (sym c.in-Some.ensures) in
    let within : c.in-Some.fs < length c.deref.result.now = search rules in
    let read : c.in-Some-get.place.now
    ≡ get_or c.deref.result.now c.in-Some.fs c.in-Some-get.place.now = search rules in
    let there : slice_get c.self.inside.supers.items c.in-Some.fs ≡ Some c.in-Some-get.place.now =
    rw (← c.deref.ensures.value) (slice_get_read _ _ _ _ refl within read) in
    front_placed c.with_block.result c.with_block.new.self (front_view c.args.front.now)
    c.args.present c.args.content (the_view c.self.inside) c.args.self.now c.in-Some.fs
    c.in-Some-get.place.now c.in_ok-block.block c.self.view_is named there c.in_ok-block.ensures
    c.with_block.ensures
