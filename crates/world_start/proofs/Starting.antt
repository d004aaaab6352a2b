-- One more inode is started.
use Rattle.std.proofs.Common.{◌≡◌, ℕ, ◌<◌, List, [], ◌∷◌, ◌++◌, length, refl, ap, sym, ◌∙◌, arith, Some, get_or, subst}
use Rattle.std.specs.Prelude.{All, map, slice_get}
use Rattle.std.proofs.lemmas.List.{append-nil, append_assoc, map-append}
use Rattle.std.proofs.lemmas.List.Elements.{All-append, All-cons, All-nil, All-tail}
use Rattle.std.proofs.lemmas.Option.{same_Some, slice_get_within}
use Rattle.grow_list.specs.Shown.{Passed}
use Rattle.ima_templates.specs.declared.entry.Entry.{Entry}
use Rattle.inode_events.specs.declared.image.Image.{Image}
use Rattle.inode_events.specs.declared.settings.Settings.{Settings}
use Rattle.inode_events.specs.declared.told.Event.{Event}
use Rattle.policy_cell.specs.declared.cell.RuleEntry.{RuleEntry}
use Rattle.world_close.specs.worlds.World.{WorldInodeValue}
use Rattle.world_close.proofs.Gets.{got}
use Rattle.world_start.specs.Started.{AreRows, AreStarted, IsFile, IsStarted, SeatsValue, StartsBefore, file_of, list_pass_of, named_by, pass_of, place_of, row_of, rule_pass_of}

-- a list, split into the part already made and the rest, after one more element is made
pub moved : {S A : Type 0} (f : S → A) (all left rest : List A) (done : List S) (s : S) (x : A)
    → all ≡ map f done ++ left → left ≡ x ∷ rest → f s ≡ x
    → all ≡ map f (done ++ s ∷ []) ++ rest
moved {A = A} f all left rest done s x is first made =
    is ∙ ap (λ (l : List A). map f done ++ l) (first ∙ ap (λ (y : A). y ∷ rest) (sym made))
    ∙ sym (append_assoc (map f done) (f s ∷ []) rest)
    ∙ ap (λ (l : List A). l ++ rest) (sym (map-append f done (s ∷ [])))

-- a list of length 0 is empty
none : {A : Type 0} (xs : List A) → length xs ≡ 0 → xs ≡ []
none [] e = refl
none (x ∷ xs) e = absurd (omega arith)

-- all elements are made once none remains
pub ended : {S A : Type 0} (f : S → A) (all left : List A) (done : List S)
    → all ≡ map f done ++ left → length left ≡ 0 → map f done ≡ all
ended {A = A} f all left done is empty =
    sym (is ∙ ap (λ (l : List A). map f done ++ l) (none left empty)
    ∙ append-nil (map f done))

module _ (settings : Settings) (tasks : ℕ) (inodes : List (List ℕ × Image)) (seats : SeatsValue)
  where
    -- no inode is started at first
    pub started_none : length seats.places ≡ length inodes
        → length seats.list_passes ≡ length inodes
        → length seats.rule_passes ≡ length inodes → All IsFile inodes
        → All (λ (q : Passed Entry). q.mine ≡ []) seats.list_passes
        → StartsBefore settings tasks inodes seats inodes seats []
    started_none places list_passes rule_passes files unused = record {
      files = refl;
      places = refl;
      list_passes = refl;
      rule_passes = refl;
      even_places = places;
      even_list_passes = list_passes;
      even_rule_passes = rule_passes;
      left_files = files;
      left_list_passes = unused;
      each = All-nil (IsStarted settings tasks);
    }

    -- all inodes are started once none remains
    pub started_all : (left : List (List ℕ × Image)) (rest : SeatsValue)
        (world_inodes : List WorldInodeValue) → length left ≡ 0
        → StartsBefore settings tasks inodes seats left rest world_inodes
        → AreStarted settings tasks inodes seats world_inodes
    started_all left rest world_inodes empty b = record {
      files = ended file_of inodes left world_inodes b.files empty;
      places = ended place_of seats.places rest.places world_inodes b.places
          (b.even_places ∙ empty);
      list_passes = ended list_pass_of (map named_by seats.list_passes)
          (map named_by rest.list_passes) world_inodes b.list_passes
          (ap (λ (l : List (Passed Entry)). length (map named_by l))
          (none rest.list_passes (b.even_list_passes ∙ empty)));
      rule_passes = ended rule_pass_of seats.rule_passes rest.rule_passes world_inodes b.rule_passes
          (b.even_rule_passes ∙ empty);
      each = b.each;
    }

    -- one more inode is started
    pub started_more : (left left2 : List (List ℕ × Image)) (rest rest2 : SeatsValue)
        (world_inodes : List WorldInodeValue) (x : List ℕ × Image) (place : ℕ)
        (listed : Passed Entry)
        (counted : Passed RuleEntry) (s : WorldInodeValue) → left ≡ x ∷ left2
        → rest.places ≡ place ∷ rest2.places → rest.list_passes ≡ listed ∷ rest2.list_passes
        → rest.rule_passes ≡ counted ∷ rest2.rule_passes → IsStarted settings tasks s
        → file_of s ≡ x → s.place ≡ place → list_pass_of s ≡ named_by listed → s.rules ≡ counted
        → StartsBefore settings tasks inodes seats left rest world_inodes
        → StartsBefore settings tasks inodes seats left2 rest2 (world_inodes ++ s ∷ [])
    started_more left left2 rest rest2 world_inodes x place listed counted s l p q c is file at name
        mine b = record {
          files = moved file_of inodes left left2 world_inodes s x b.files l file;
          places = moved place_of seats.places rest.places rest2.places world_inodes s place
              b.places p at;
          list_passes = moved list_pass_of (map named_by seats.list_passes)
              (map named_by rest.list_passes)
              (map named_by rest2.list_passes) world_inodes s (named_by listed) b.list_passes
              (ap (map named_by) q) name;
          rule_passes = moved rule_pass_of seats.rule_passes rest.rule_passes rest2.rule_passes
              world_inodes s counted b.rule_passes c mine;
          even_places = let e = ap length p in let f = ap length l in
              let g = b.even_places in omega arith;
          even_list_passes = let e = ap length q in let f = ap length l in
              let g = b.even_list_passes in omega arith;
          even_rule_passes = let e = ap length c in let f = ap length l in
              let g = b.even_rule_passes in omega arith;
          left_files = All-tail IsFile x left2
              (subst (λ (y : List (List ℕ × Image)). All IsFile y) l b.left_files);
          left_list_passes = All-tail (λ (y : Passed Entry). y.mine ≡ []) listed rest2.list_passes
              (subst (λ (y : List (Passed Entry)). All (λ (z : Passed Entry). z.mine ≡ []) y) q
              b.left_list_passes);
          each = All-append (IsStarted settings tasks) world_inodes (s ∷ []) b.each
              (All-cons (IsStarted settings tasks) s [] is (All-nil (IsStarted settings tasks)));
        }

-- each task gets a pass of one more journal
pub rows_more : (world_inodes : List WorldInodeValue) (s : WorldInodeValue) (tasks : ℕ)
    (rows rows2 : List (List (Passed Event))) → AreRows world_inodes tasks rows
    → length rows2 ≡ length rows
    → ((k : ℕ) (row : List (Passed Event)) → slice_get rows k ≡ Some row
    → slice_get rows2 k ≡ Some (row ++ pass_of s k ∷ []))
    → AreRows (world_inodes ++ s ∷ []) tasks rows2
rows_more world_inodes s tasks rows rows2 old even given = (even ∙ old.0, row_is) where
  row_is : (k : ℕ) (row : List (Passed Event)) → slice_get rows2 k ≡ Some row
      → row ≡ row_of (world_inodes ++ s ∷ []) k
  row_is k row at =
      let within : k < length rows =
      subst (λ (n : ℕ). k < n) even (slice_get_within rows2 k row at) in
      let was = got rows k [] within in
      let is : get_or rows k [] ≡ row_of world_inodes k = old.1 k (get_or rows k []) was in
      same_Some row (get_or rows k [] ++ pass_of s k ∷ [])
      (sym at ∙ given k (get_or rows k []) was)
      ∙ ap (λ (r : List (Passed Event)). r ++ pass_of s k ∷ []) is
      ∙ sym (map-append (λ (t : WorldInodeValue). pass_of t k) world_inodes (s ∷ []))
