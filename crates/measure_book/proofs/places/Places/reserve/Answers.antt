-- Twice a power of two is a power of two, and the wider table gets all keys.
use Rattle.std.proofs.Common.{◌≡◌, suc, ◌*◌, [], ◌∷◌, ◌++◌, length, get_or, None, ap, sym, ◌∙◌, arith}
use Rattle.std.proofs.lemmas.List.{length-take-le, take_all, take_more}
use Rattle.measure_book.specs.Places.{PlacesValue}
use Rattle.std.proofs.Math.Nat.{pow-suc}
use Rattle.measure_book.proofs.places.Places.reserve.Goals as goal

pub with_buckets-requires-clause-power : goal.with_buckets-requires-clause-power
with_buckets-requires-clause-power c =
    let power = c.self.invariant.power in (
      suc power.0,
      omega (
        arith,
        c.len-3.ensures,
        c.self.inside.newest.ok,
        power.1,
        pow-suc 2 power.0,
      ),
    )

pub loop-key-preserved : goal.loop-key-preserved
loop-key-preserved c =
    let keys = c.deref-key-items.result.now in
    let place = c.loop-key.key-index in record {
      buckets = c.push.ensures.buckets ∙ c.loop-key.invariant.buckets;
      keys = c.push.ensures.keys
          ∙ (λ i. c.loop-key.invariant.keys i ++ get_or keys place None ∷ [])
          ∙ sym (take_more keys place None c.loop-key-test.true);
    }

pub push-requires : goal.push-requires
push-requires c =
    let buckets : c.loop-key.wider.buckets ≡ 2 * c.args.self.now.buckets =
    c.loop-key.invariant.buckets in
    omega (
      arith,
      buckets,
      ap (λ (t : PlacesValue). t.buckets) c.self.view_is,
      c.self.invariant.half,
      ap length c.loop-key.invariant.keys,
      length-take-le c.loop-key.key-index c.deref-key-items.result.now
          c.loop-key.auto.key-index-end,
      c.loop-key-test.true,
      ap length c.deref-key-items.ensures.value,
    )

pub returns : goal.returns
returns c =
    let buckets : length c.drop.inside.newest.items ≡ 2 * c.args.self.now.buckets =
    ap (λ (t : PlacesValue). t.buckets) c.drop.view_is ∙ c.loop-key.invariant.buckets in
    let before = ap (λ (t : PlacesValue). t.buckets) c.self.view_is in
    let keys = ap (λ (t : PlacesValue). t.keys) c.drop.view_is ∙ c.loop-key.invariant.keys
    ∙ take_all c.loop-key.key-index c.deref-key-items.result.now c.loop-key-test.false
    ∙ c.deref-key-items.ensures.value in record {
      room = omega (
        arith,
        buckets,
        before,
        ap length keys,
        c.self.invariant.half,
        c.self.invariant.not_one,
      );
      keys = keys ∙ ap (λ (t : PlacesValue). t.keys) c.self.view_is;
      kept = omega (arith, buckets, before);
    }
