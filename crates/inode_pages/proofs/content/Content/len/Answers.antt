use Rattle.std.proofs.Common.{◌≡◌, ◌∙◌, sym, ap, List, ℕ, length, Some, arith}
use Rattle.std.specs.Prelude.{slice_get, ◌-◌}
use Rattle.inode_pages.proofs.Paging.{length_by_last}
use Rattle.inode_pages.proofs.content.Content.len.Goals as goal

pub returns-in-Some : goal.returns-in-Some
returns-in-Some c =
    let pages = c.self.inside.pages.items in
    let at : slice_get pages (length pages - 1) ≡ Some c.in-Some.last.now =
    ap (λ (l : List (List ℕ)). slice_get l (length l - 1)) (sym c.deref.ensures.value)
    ∙ sym c.in-Some.ensures.value in
    let some = length_by_last _ pages c.in-Some.last.now c.self.invariant.pages_are at in
    record {
      length = omega (
        arith,
        some,
        ap length c.self.view_is,
        ap length c.as_slice.ensures.bytes,
        c.len.ensures,
      );
      most = omega (
        arith,
        some,
        ap length c.self.view_is,
        ap length c.as_slice.ensures.bytes,
        c.len.ensures,
        c.self.invariant.small,
      );
    }
