-- The length of the field is written, and then its content.
use Rattle.std.proofs.Common.{◌≡◌, ℕ, List, Bool, cond, ◌++◌, length, subst, sym, ◌∙◌, arith}
use Rattle.byteorder.specs.Endian.{little_bytes}
use Rattle.ima_templates.specs.Data.{content, sized}
use Rattle.ima_templates.proofs.DataLemmas.{length-content-fits}
use Rattle.ima_templates.proofs.data.absorb_field.Goals as goal

pub absorb_number-requires : goal.absorb_number-requires
absorb_number-requires g c =
    omega (
      arith,
      c.in_ok-absorb_content.ensures.ok,
      length-content-fits c.args.field c.args.digest.now c.args.name.now c.args.sig.now c.requires,
    )

pub returns-in_ok-absorb_content-2-clause-ok : goal.returns-in_ok-absorb_content-2-clause-ok
unfolding sized
returns-in_ok-absorb_content-2-clause-ok g c =
    let bytes = content c.args.field c.args.digest.now c.args.name.now c.args.sig.now in
    let Absorbed : List ℕ
    → Type 0 =
    λ m. g.S.Absorb.absorbs c.args.to.now c.absorb_content-then-has_length.new.to m in
    let count : c.absorb_content.new.to.bytes
    ≡ length bytes = omega (arith, c.in_ok-absorb_content.ensures.ok) in
    let both : Absorbed (little_bytes 4 c.absorb_content.new.to.bytes ++ bytes) =
    g.met.S.Absorb.more _ _ _ _ _ c.in_ok-absorb_number.ensures.ok
    c.in_ok-absorb_content-2.ensures.ok in
    subst (λ (b : Bool). Absorbed (cond b (sized bytes) bytes))
    (sym (sym c.has_length.ensures ∙ c.if-has_length.true))
    (subst (λ (n : ℕ). Absorbed (little_bytes 4 n ++ bytes)) count both)

pub returns-in_ok-absorb_content-2-clause-kept : goal.returns-in_ok-absorb_content-2-clause-kept
returns-in_ok-absorb_content-2-clause-kept g c =
    g.met.S.Absorb.keeps_further _ _ _ c.in_ok-absorb_number.ensures.kept
    c.in_ok-absorb_content-2.ensures.kept

pub returns-in_err-absorb_content-2-clause-kept : goal.returns-in_err-absorb_content-2-clause-kept
returns-in_err-absorb_content-2-clause-kept g c =
    g.met.S.Absorb.keeps_further _ _ _ c.in_ok-absorb_number.ensures.kept
    c.in_err-absorb_content-2.ensures.kept
