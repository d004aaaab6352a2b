use Rattle.std.proofs.Common.{◌≡◌, List, [], ◌∷◌, ◌++◌, map, refl, sym, ap, ◌∙◌, arith, append_assoc}
use Rattle.std.proofs.lemmas.List.{append-nil, nil_from_length}
use Rattle.script_scene.specs.Scene.{file_of, fs_of}
use Rattle.script_scene.proofs.parts.split.Goals as goal

-- one more element of a list that is mapped
mapped_more : {X Y : Type 0} (f : X → Y) (all : List Y) (made more : List Y) (left rest : List X)
    (x : X) (y : Y) → all ≡ made ++ map f left → left ≡ x ∷ rest → more ≡ made ++ y ∷ [] → f x ≡ y
    → all ≡ more ++ map f rest
mapped_more f all made more left rest x y is first pushed at =
    is ∙ ap (λ l. made ++ map f l) first ∙ ap (λ z. made ++ z ∷ map f rest) at
    ∙ sym (append_assoc made (y ∷ []) (map f rest)) ∙ ap (λ l. l ++ map f rest) (sym pushed)

-- once no element is left, all are mapped
mapped_all : {X Y : Type 0} (f : X → Y) (all made : List Y) (left : List X)
    → all ≡ made ++ map f left → left ≡ [] → made ≡ all
mapped_all f all made left is none =
    sym (is ∙ ap (λ l. made ++ map f l) none ∙ append-nil made)

pub loop-file-preserved : goal.loop-file-preserved
loop-file-preserved c =
    let before = c.loop-file.invariant in
    let left = c.loop-file.file-iterator.rest.items in
    let rest = c.next.new.self.rest.items in
    let first = c.in-Some.ensures.steps.0 in
    record {
      inodes = mapped_more file_of _ _ _ left rest c.in-Some.file _ before.inodes first
          c.in_ok-push.ensures.items refl;
      places = mapped_more fs_of _ _ _ left rest c.in-Some.file _ before.places first
          c.in_ok-push-2.ensures.items refl;
    }

pub returns-clause-inodes : goal.returns-clause-inodes
returns-clause-inodes c =
    let left = c.loop-file.file-iterator.rest in
    mapped_all file_of _ _ left.items c.loop-file.invariant.inodes
    (nil_from_length left.items (omega (arith, left.ok, c.in-None.ensures.steps.0)))

pub returns-clause-places : goal.returns-clause-places
returns-clause-places c =
    let left = c.loop-file.file-iterator.rest in
    mapped_all fs_of _ _ left.items c.loop-file.invariant.places
    (nil_from_length left.items (omega (arith, left.ok, c.in-None.ensures.steps.0)))
