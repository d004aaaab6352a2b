-- What can be seen of the inodes of a world between turns.
use Rattle.std.proofs.Common.{◌≡◌, ◌<◌, ◌≤◌, ℕ, List, length, get_or, ap, sym, ◌∙◌, refl, subst, Option, Some, None}
use Rattle.std.specs.Prelude.{map, option_map, slice_get}
use Rattle.std.proofs.lemmas.Option.{slice_get-map, slice_get_past, slice_get_read}
use Rattle.inode_events.specs.declared.settings.Settings.{Settings}
use Rattle.world_model.specs.inodes.Value.{CellValue}
use Rattle.run_model.specs.Turns.{State}
use Rattle.task_core.specs.Cells.{IsCellAt}
use Rattle.task_core.specs.WorldFields.{IsWorld, consts_in, world_of}
use Rattle.task_core.specs.declared.world.World.TheInside.{Inside}
use Rattle.world_model.specs.WorldConsts.{WorldConsts}
use Rattle.world_model.specs.World.{IsWorldInode, WorldInodeValue, WorldValue, inode_consts_of, journal_of}

abbrev pub cell_of : WorldInodeValue → CellValue
cell_of s = s.cell

cell_by : (consts : WorldConsts) (state : State) (i : ℕ) (o : Option WorldInodeValue)
    → ((s : WorldInodeValue) → o ≡ Some s → IsWorldInode consts i s)
    → slice_get state.journals i ≡ option_map journal_of o
    → IsCellAt consts state i (option_map cell_of o)
cell_by consts state i None each journals = journals
cell_by consts state i (Some s) each journals =
    let world_inode = each s refl in (
      journals,
      (
        inode_consts_of s,
        (
          world_inode.inode_consts,
          ap (λ (x : Settings). record {
            path = s.cell.inode.path;
            settings = x;
            birth = s.cell.inode.birth;
          }) world_inode.settings,
        ),
      ),
    )

-- the inode of a number is that of its constants, with its journal
pub cell_at : (consts : WorldConsts) (state : State) (world_inodes : List WorldInodeValue) (i : ℕ)
    → ((k : ℕ) (s : WorldInodeValue) → slice_get world_inodes k ≡ Some s → IsWorldInode consts k s)
    → state.journals ≡ map journal_of world_inodes
    → IsCellAt consts state i (option_map cell_of (slice_get world_inodes i))
cell_at consts state world_inodes i each are =
    cell_by consts state i (slice_get world_inodes i) (each i)
    (ap (λ js. slice_get js i) are ∙ slice_get-map journal_of world_inodes i)

module _ (w : Inside) (v : WorldValue) (i : ℕ) (kept : IsWorld w) (is : world_of w ≡ v) where
  -- what is found at a number is the inode of that number
  inode_by : (o : Option WorldInodeValue) → slice_get w.parts.world_inodes.items i ≡ o
      → IsCellAt v.consts v.state i (option_map cell_of o)
  inode_by o at =
      subst (λ (x : WorldValue). IsCellAt x.consts x.state i (option_map cell_of o)) is
      (subst (λ (p : Option WorldInodeValue). IsCellAt (consts_in w) (world_of w).state i
      (option_map cell_of p)) at
      (cell_at (consts_in w) (world_of w).state w.parts.world_inodes.items i
      kept.parts.world_inodes refl))

  pub inode_there : (items : List WorldInodeValue) (s now : WorldInodeValue)
      → items ≡ w.parts.world_inodes.items → i < length items → now ≡ get_or items i now → s ≡ now
      → IsCellAt v.consts v.state i (Some s.cell)
  inode_there items s now are below found same =
      inode_by (Some s) (ap (λ xs. slice_get xs i) (sym are)
      ∙ slice_get_read items (length items) i now refl below found ∙ ap Some (sym same))

  pub no_inode : (items : List WorldInodeValue) → items ≡ w.parts.world_inodes.items
      → length items ≤ i → IsCellAt v.consts v.state i None
  no_inode items are past =
      inode_by None (ap (λ xs. slice_get xs i) (sym are) ∙ slice_get_past items i past)
