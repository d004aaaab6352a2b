use Rattle.std.proofs.Common.{◌≡◌, length, rules}
use Rattle.call_lines.proofs.PlacesLemmas.{one_path_more}
use Rattle.call_lines.proofs.paths.Paths.with.Goals as goal

pub invariant_of-paths : goal.invariant_of-paths
invariant_of-paths c =
    let key = c.in_ok-to_vec.field-0 in
    let key_is : key.items ≡ c.args.path.now = search rules in
    let copy_is : c.in_ok-from_slice.field-0 ≡ c.args.path.now = c.in_ok-from_slice.ensures.bytes in
    let place_is : c.len-place.result ≡ length c.paths.inside.paths.items = search rules in
    let found = one_path_more key c.paths.inside.places c.insert.new.self c.paths.inside.paths.items
    (rw place_is at c.in_ok-insert.ensures.updates) c.paths.invariant
    (rw (key_is, c.paths.view_is) c.requires.absent) in
    rw (c.in_ok-push.ensures.items, copy_is, ← key_is) found
