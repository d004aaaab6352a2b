use Rattle.std.proofs.Common.{ℕ, List, ◌≡◌, ◌+◌, [], length, refl, sym, ap, subst, ◌∙◌, arith, take, ◌++◌}
use Rattle.std.proofs.lemmas.Result.{err_from_is_err_and}
use Rattle.std.proofs.lemmas.List.{append-nil, with_items_is}
use Rattle.std.proofs.KnownBytes.{Consumes-kept, Consumes-nil, Consumes-trans}
use Rattle.std.specs.Io.KnownBytes.{Consumes}
use Rattle.ima_io.proofs.Parts.{length-append-take}
use Rattle.ima_io.proofs.whole.read_all.Given as given
use Rattle.ima_io.proofs.whole.read_all.Goals as goal

-- a read's bytes are appended
taken : (g : given.Over) (c : goal.In_ok-extend_from_slice g) → c.extend_from_slice.new.self.items
    ≡ c.loop-chunk.bytes.items ++ take c.in_ok-n.n c.read_some.new.chunk
taken g c =
    let chunk : c.deref.result.now ≡ c.read_some.new.chunk = c.deref.ensures.value
    ∙ with_items_is c.loop-chunk.chunk c.read_some.new.chunk (omega arith) in
    subst (λ (xs : List ℕ). c.extend_from_slice.new.self.items
    ≡ c.loop-chunk.bytes.items ++ take c.in_ok-n.n xs) chunk c.in_ok-extend_from_slice.ensures.items

-- the number of bytes grows by that of the read
longer : (g : given.Over) (c : goal.In_ok-extend_from_slice g)
    → length c.extend_from_slice.new.self.items ≡ length c.loop-chunk.bytes.items + c.in_ok-n.n
longer g c =
    ap length (taken g c)
    ∙ length-append-take c.loop-chunk.bytes.items c.read_some.new.chunk c.in_ok-n.n
    c.in_ok-n.ensures.fits

pub loop-chunk-preserved : goal.loop-chunk-preserved
loop-chunk-preserved g c =
    let old = c.loop-chunk.invariant in
    let read = c.in_ok-n.ensures in record {
      room = old.room;
      short = omega (arith, longer g c);
      given = subst (Consumes _ _) (sym (taken g c))
          (Consumes-trans _ _ _ _ _ old.given read.bytes.0);
      count = omega (arith, old.count, read.count);
    }

pub loop-chunk-smaller : goal.loop-chunk-smaller
loop-chunk-smaller g c = omega (arith, longer g c)

-- a read of no bytes leaves those that the source gave before
all_given : (g : given.Over) (c : goal.After-drop-chunk-then-n-eq0 g) → Consumes
    (g.S.Source.left c.args.source.now) (g.S.Source.left c.read_some.new.source)
    c.loop-chunk.bytes.items
all_given g c =
    subst (Consumes _ _)
    (ap (λ n. c.loop-chunk.bytes.items ++ take n c.read_some.new.chunk) c.if-n-eq0.true
    ∙ append-nil c.loop-chunk.bytes.items)
    (Consumes-trans _ _ _ _ _ c.loop-chunk.invariant.given c.in_ok-n.ensures.bytes.0)

pub returns-then-n-eq0-clause-all : goal.returns-then-n-eq0-clause-all
returns-then-n-eq0-clause-all g c = all_given g c

pub returns-then-n-eq0-clause-given : goal.returns-then-n-eq0-clause-given
returns-then-n-eq0-clause-given g c =
    let short = c.loop-chunk.invariant.short in (
      c.loop-chunk.bytes.items,
      all_given g c,
      (
        omega (arith, short),
        ((λ e. absurd (cc e)), λ lt. absurd (omega (arith, short, lt))),
        refl {A = List ℕ},
      ),
    )

pub returns-in_err-n-clause-given : goal.returns-in_err-n-clause-given
returns-in_err-n-clause-given g c =
    let short = c.loop-chunk.invariant.short in
    let p = err_from_is_err_and c.from_residual-in_err-n.result
    c.from_residual-in_err-n.ensures.1 in
    rw (p.1) (
      c.loop-chunk.bytes.items,
      Consumes-kept _ _ _ _ c.loop-chunk.invariant.given c.in_err-n.ensures.bytes,
      (
        omega (arith, short),
        ((λ e. absurd (cc (e, p.2))), λ lt. absurd (omega (arith, short, lt))),
        tt,
      ),
    )

pub returns-in_err-chunk-clause-given : goal.returns-in_err-chunk-clause-given
returns-in_err-chunk-clause-given g c =
    let p = err_from_is_err_and c.from_residual.result c.from_residual.ensures.1 in
    rw (p.1) (
      [],
      Consumes-nil _,
      (omega arith, ((λ e. absurd (cc (e, p.2))), λ lt. absurd (omega (arith, lt))), tt),
    )

pub returns-then-n-limit-clause-given : goal.returns-then-n-limit-clause-given
returns-then-n-limit-clause-given g c =
    let read = c.in_ok-n.ensures in
    let long = length-append-take c.loop-chunk.bytes.items c.read_some.new.chunk c.in_ok-n.n
    read.fits in (
      c.loop-chunk.bytes.items ++ take c.in_ok-n.n c.read_some.new.chunk,
      Consumes-trans _ _ _ _ _ c.loop-chunk.invariant.given read.bytes.0,
      (omega (arith, long, read.few), ((λ _. omega (arith, long)), λ _. refl), tt),
    )

pub returns-in_err-extend_from_slice-clause-given :
    goal.returns-in_err-extend_from_slice-clause-given
returns-in_err-extend_from_slice-clause-given g c =
    let read = c.in_ok-n.ensures in
    let long = length-append-take c.loop-chunk.bytes.items c.read_some.new.chunk c.in_ok-n.n
    read.fits in
    let p = err_from_is_err_and c.from_residual-in_err-extend_from_slice.result
    c.from_residual-in_err-extend_from_slice.ensures.1 in
    rw (p.1) (
      c.loop-chunk.bytes.items ++ take c.in_ok-n.n c.read_some.new.chunk,
      Consumes-trans _ _ _ _ _ c.loop-chunk.invariant.given read.bytes.0,
      (
        omega (arith, long, read.few),
        ((λ e. absurd (cc (e, p.2))), λ lt. absurd (omega (arith, long, lt))),
        tt,
      ),
    )
