-- The inodes of a world are the files of its scene.
use Rattle.std.proofs.Common.{◌≡◌, ℕ, List, [], ◌∷◌, length, refl, ap, sym, subst, ◌∙◌, arith, Some, zero, suc}
use Rattle.std.specs.Prelude.{All, map, slice_get}
use Rattle.std.specs.List.{AllZip}
use Rattle.std.proofs.lemmas.List.{length-map}
use Rattle.std.proofs.lemmas.Option.{same_Some}
use Rattle.grow_list.specs.Shown.{Passed}
use Rattle.ima_templates.specs.declared.entry.Entry.{Entry}
use Rattle.inode_events.specs.Legal.{Legal}
use Rattle.inode_events.specs.Merged.{Journal}
use Rattle.inode_events.specs.NewestFirst.{newest_first}
use Rattle.inode_events.specs.declared.told.Event.{Event}
use Rattle.world_model.specs.laws_of_runs.Laws.{InodeClosed}
use Rattle.world_model.specs.model.Scene.{Program, Scene, ScriptFile, inode_of}
use Rattle.world_model.specs.model.Shown.{journals_of}
use Rattle.world_model.specs.WorldConsts.{InodeConsts, WorldConsts, scene_of, script_file_of}
use Rattle.world_model.specs.World.{WorldInodeValue, inode_consts_of, journal_of}
use Rattle.world_close.specs.Closed.{AreWorldInodes, WorldInodeClosed}
use Rattle.world_close.proofs.Gets.{all_by_get, get_map}

-- ---- pairs of lists

module _ {A B : Type 0} where
  -- lists in a pairwise relation have the same length
  pub zip_even : (R : A → B → Type 0) (xs : List A) (ys : List B) → AllZip R xs ys
      → length ys ≡ length xs
  zip_even R [] [] z = refl
  zip_even R [] (y ∷ ys) z = absurd z
  zip_even R (x ∷ xs) [] z = absurd z
  zip_even R (x ∷ xs) (y ∷ ys) z = let e = zip_even R xs ys z.1 in omega arith

  -- each element of the first list has a partner in the second
  pub zip_at : (R : A → B → Type 0) (xs : List A) (ys : List B) (k : ℕ) (x : A)
      → AllZip R xs ys → slice_get xs k ≡ Some x → (y : B) × ((slice_get ys k ≡ Some y) × R x y)
  zip_at R [] ys k x z h = absurd (cc)
  zip_at R (w ∷ xs) [] k x z h = absurd z
  zip_at R (w ∷ xs) (y ∷ ys) zero x z h =
      (y, (refl, subst (λ (v : A). R v y) (same_Some w x h) z.0))
  zip_at R (w ∷ xs) (y ∷ ys) (suc k) x z h = zip_at R xs ys k x z.1 h

  zip_by_get : (R : A → B → Type 0) (xs : List A) (ys : List B) → length ys ≡ length xs
      → ((k : ℕ) (x : A) (y : B) → slice_get xs k ≡ Some x → slice_get ys k ≡ Some y → R x y)
      → AllZip R xs ys
  zip_by_get R [] [] even each = tt
  zip_by_get R [] (y ∷ ys) even each = absurd (omega arith)
  zip_by_get R (x ∷ xs) [] even each = absurd (omega arith)
  zip_by_get R (x ∷ xs) (y ∷ ys) even each =
      (each 0 x y refl refl, zip_by_get R xs ys (omega arith) (λ k. each (suc k)))

-- ---- a file of the scene, and its inode

pub record IsAt (scene : Scene) (world_inodes : List WorldInodeValue) (i : ℕ)
    (script_file : ScriptFile) (journal : List Event) : Type 0 where
  pub there : WorldInodeValue
  pub at : slice_get world_inodes i ≡ Some there
  pub journal_is : journal_of there ≡ journal
  pub inode_is : there.cell.inode ≡ inode_of scene script_file

-- inode number i is that of the scene
pub is_at : (consts : WorldConsts) (programs : List Program) (world_inodes : List WorldInodeValue)
    (i : ℕ) (script_file : ScriptFile) (journal : List Event) → AreWorldInodes consts world_inodes
    → slice_get (scene_of consts programs).script_files i ≡ Some script_file
    → slice_get (map journal_of world_inodes) i ≡ Some journal
    → IsAt (scene_of consts programs) world_inodes i script_file journal
is_at consts programs world_inodes i script_file journal are a b =
    at (get_map (script_file_of consts) consts.each_inode i script_file a)
    (get_map journal_of world_inodes i journal b)
  where
    at : (x : InodeConsts)
        × ((slice_get consts.each_inode i ≡ Some x) × (script_file_of consts x ≡ script_file))
        → (s : WorldInodeValue) × ((slice_get world_inodes i ≡ Some s) × (journal_of s ≡ journal))
        → IsAt (scene_of consts programs) world_inodes i script_file journal
    at x s =
        let is = are.each i s.0 s.1.0 in
        let inode_consts : x.0 ≡ inode_consts_of s.0 =
        same_Some x.0 (inode_consts_of s.0) (sym x.1.0 ∙ is.inode_consts) in
        record {
          there = s.0;
          at = s.1.0;
          journal_is = s.1.1;
          inode_is =
              sym (ap (inode_of (scene_of consts programs))
              (sym x.1.1 ∙ ap (script_file_of consts) inode_consts)
              ∙ (λ k. record {
                path = s.0.cell.inode.path;
                settings = sym is.settings k;
                birth = s.0.cell.inode.birth;
              }));
        }

-- ---- the journals of the scene

-- the journal is that of a file, at the same place
record IsJournalAt (scene : Scene) (script_files : List ScriptFile) (lists : List (List Event))
    (i : ℕ) (j : Journal) : Type 0 where
  pub script_file : ScriptFile
  pub journal : List Event
  pub at : slice_get script_files i ≡ Some script_file
  pub journal_at : slice_get lists i ≡ Some journal
  pub is : record { inode = inode_of scene script_file; events = newest_first journal } ≡ j

journal_is_at : (scene : Scene) (script_files : List ScriptFile) (lists : List (List Event)) (i : ℕ)
    (j : Journal) → slice_get (journals_of scene script_files lists) i ≡ Some j
    → IsJournalAt scene script_files lists i j
journal_is_at scene [] lists i j h = absurd (cc)
journal_is_at scene (s ∷ script_files) [] i j h = absurd (cc)
journal_is_at scene (s ∷ script_files) (l ∷ lists) zero j h =
    record {
      script_file = s;
      journal = l;
      at = refl;
      journal_at = refl;
      is = same_Some (record { inode = inode_of scene s; events = newest_first l }) j h;
    }
journal_is_at scene (s ∷ script_files) (l ∷ lists) (suc i) j h =
    at (journal_is_at scene script_files lists i j h) where
      at : IsJournalAt scene script_files lists i j
          → IsJournalAt scene (s ∷ script_files) (l ∷ lists) (suc i) j
      at w = record {
        script_file = w.script_file;
        journal = w.journal;
        at = w.at;
        journal_at = w.journal_at;
        is = w.is;
      }

journals_even : (scene : Scene) (script_files : List ScriptFile) (lists : List (List Event))
    → length lists ≡ length script_files
    → length (journals_of scene script_files lists) ≡ length script_files
journals_even scene [] lists even = refl
journals_even scene (s ∷ script_files) [] even = absurd (omega arith)
journals_even scene (s ∷ script_files) (l ∷ lists) even =
    let e = journals_even scene script_files lists (omega arith) in omega arith

-- there are as many journals as files
pub lists_even : (consts : WorldConsts) (programs : List Program)
    (world_inodes : List WorldInodeValue) → AreWorldInodes consts world_inodes
    → length (map journal_of world_inodes) ≡ length (scene_of consts programs).script_files
lists_even consts programs world_inodes are =
    length-map world_inodes journal_of ∙ are.even
    ∙ sym (length-map consts.each_inode (script_file_of consts))

-- the closed inode of number i and its pass, for the scene's journal of that number
record IsClosedAt (world_inodes : List WorldInodeValue) (inodes : List (Passed Entry)) (i : ℕ)
    (j : Journal) : Type 0 where
  pub pass : Passed Entry
  pub at : slice_get inodes i ≡ Some pass
  pub legal : Legal j.inode j.events
  pub booked : InodeClosed j pass

closed_at : (consts : WorldConsts) (programs : List Program) (world_inodes : List WorldInodeValue)
    (inodes : List (Passed Entry)) → AreWorldInodes consts world_inodes
    → AllZip WorldInodeClosed world_inodes inodes → (i : ℕ) (j : Journal)
    → slice_get (journals_of (scene_of consts programs) (scene_of consts programs).script_files
    (map journal_of world_inodes)) i ≡ Some j → IsClosedAt world_inodes inodes i j
closed_at consts programs world_inodes inodes are closed i j h =
    at (journal_is_at (scene_of consts programs) (scene_of consts programs).script_files
    (map journal_of world_inodes) i j h) where
      at : IsJournalAt (scene_of consts programs) (scene_of consts programs).script_files
          (map journal_of world_inodes) i j → IsClosedAt world_inodes inodes i j
      at w =
          let s = is_at consts programs world_inodes i w.script_file w.journal are w.at
          w.journal_at in
          let q = zip_at WorldInodeClosed world_inodes inodes i s.there closed s.at in
          let same : record {
            inode = s.there.cell.inode;
            events = newest_first s.there.cell.list;
          } ≡ j =
          (λ k. record { inode = s.inode_is k; events = newest_first (s.journal_is k) }) ∙ w.is in
          record {
            pass = q.0;
            at = q.1.0;
            legal = subst (λ (x : Journal). Legal x.inode x.events) same q.1.1.legal;
            booked = subst (λ (x : Journal). InodeClosed x q.0) same q.1.1.booked;
          }

-- each journal of the scene is legal
pub all_legal : (consts : WorldConsts) (programs : List Program)
    (world_inodes : List WorldInodeValue)
    (inodes : List (Passed Entry)) → AreWorldInodes consts world_inodes
    → AllZip WorldInodeClosed world_inodes inodes
    → All (λ (j : Journal). Legal j.inode j.events) (journals_of (scene_of consts programs)
    (scene_of consts programs).script_files (map journal_of world_inodes))
all_legal consts programs world_inodes inodes are closed =
    all_by_get (λ (j : Journal). Legal j.inode j.events)
    (journals_of (scene_of consts programs) (scene_of consts programs).script_files
    (map journal_of world_inodes))
    (λ i j h. (closed_at consts programs world_inodes inodes are closed i j h).legal)

-- each journal of the scene has its pass of the measurement list
pub all_booked : (consts : WorldConsts) (programs : List Program)
    (world_inodes : List WorldInodeValue)
    (inodes : List (Passed Entry)) → AreWorldInodes consts world_inodes
    → AllZip WorldInodeClosed world_inodes inodes
    → AllZip InodeClosed (journals_of (scene_of consts programs)
    (scene_of consts programs).script_files (map journal_of world_inodes)) inodes
all_booked consts programs world_inodes inodes are closed =
    zip_by_get InodeClosed (journals_of (scene_of consts programs)
    (scene_of consts programs).script_files (map journal_of world_inodes)) inodes
    (zip_even WorldInodeClosed world_inodes inodes closed
    ∙ sym (journals_even (scene_of consts programs) (scene_of consts programs).script_files
    (map journal_of world_inodes) (lists_even consts programs world_inodes are)
    ∙ length-map consts.each_inode (script_file_of consts) ∙ sym are.even))
    (λ i j q a b. booked i j q b (closed_at consts programs world_inodes inodes are closed i j a))
  where
    booked : (i : ℕ) (j : Journal) (q : Passed Entry) → slice_get inodes i ≡ Some q
        → IsClosedAt world_inodes inodes i j → InodeClosed j q
    booked i j q b c =
        subst (λ (x : Passed Entry). InodeClosed j x) (same_Some c.pass q (sym c.at ∙ b)) c.booked
