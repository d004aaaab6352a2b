-- The names of an inode's attributes are words.
use Rattle.std.proofs.Common.{◌≡◌, ℕ, Bool, true, false, List, [], ◌∷◌, Option, Some, None, if◌then◌else◌, refl, sym, subst}
use Rattle.std.specs.Prelude.{option_map}
use Rattle.std.specs.BTreeMap.{insert_entry}
use Rattle.std.specs.List.{AllByRecursion}
use Rattle.std.specs.Ordering.{match_ordering}
use Rattle.std.specs.declared.cmp.Ordering.{Ordering}
use Rattle.std.specs.declared.cmp.Ordering.TheVariants.{Less, Equal, Greater}
use Rattle.std.specs.Str.{bytes_eq}
use Rattle.call_steps.specs.hashes.declared.digest.Digest.{Digest}
use Rattle.inode_meta.specs.declared.identity.Meta.{Meta}
use Rattle.inode_meta.specs.declared.step.Who.{Who}
use Rattle.inode_events.specs.Inode.{Inode}
use Rattle.inode_events.specs.Integrity.{Integrity, attr_changed, attr_set, attributes, attributes_after, digest_from, fixed_by, ima_name, integrity, labelled_by, labelled_with}
use Rattle.inode_events.specs.Legal.{EachFollows, Follows}
use Rattle.inode_events.specs.State.{changed, metadata}
use Rattle.inode_events.specs.declared.deed.Deed.{Deed}
use Rattle.inode_events.specs.declared.deed.Deed.TheVariants as deed
use Rattle.inode_events.specs.declared.image.Image.{Image}
use Rattle.inode_events.specs.declared.told.Event.{Event}
use Rattle.inode_events.specs.declared.told.Told.{Told}
use Rattle.inode_events.specs.declared.told.Told.TheVariants as told
use Rattle.evm_verify.specs.Changes.{protects}
use Rattle.evm_verify.specs.Input.{any_present, evm_input, evm_name, evm_value, protected_names}
use Rattle.evm_verify.specs.Setup.{Setup}
use Rattle.evm_verify.specs.Status.{evm_status, renewed, renewed_under}
use Rattle.inode_events.specs.labels.Labels.{label_of}
use Rattle.inode_events.specs.labels.Verdicts.{is_old}
use Rattle.report_text.specs.Ranges.{IsClean, IsDeed}
use Rattle.ima_templates.specs.xattrs.Attrs.{Pair, byte_order, put, without}

-- the names of the attributes are words
abbrev pub AreNamed : List Pair → Type 0
AreNamed attrs = AllByRecursion (λ (p : Pair). IsClean p.0) attrs

-- either list has names that are words
either_named : (b : Bool) (xs ys : List Pair) → AreNamed xs → AreNamed ys
    → AreNamed (if b then xs else ys)
either_named true xs ys h k = h
either_named false xs ys h k = k

put_named : (name bytes : List ℕ) (attrs : List Pair) → IsClean name → AreNamed attrs
    → AreNamed (put name bytes attrs)
put_named name bytes [] n h = (n, tt)
put_named name bytes (a ∷ rest) n h =
    at (byte_order name a.0) (put_named name bytes rest n h.1) where
      at : (o : Ordering) → AreNamed (put name bytes rest)
          → AreNamed (match_ordering o ((name, bytes) ∷ a ∷ rest) ((a.0, bytes) ∷ rest)
          (a ∷ insert_entry byte_order rest name bytes))
      at Less more = (n, h)
      at Equal more = h
      at Greater more = (h.0, more)

without_named : (name : List ℕ) (attrs : List Pair) → AreNamed attrs
    → AreNamed (without name attrs)
without_named name [] h = tt
without_named name (a ∷ rest) h =
    either_named (bytes_eq name a.0) rest (a ∷ without name rest) h.1
    (h.0, without_named name rest h.1)

under_named : (key : Option (List ℕ)) (evm : Setup) (attrs : List Pair) (meta : Meta)
    → AreNamed attrs → AreNamed (renewed_under key evm attrs meta)
under_named None evm attrs meta h = h
under_named (Some key) evm attrs meta h =
    either_named (any_present (protected_names evm) attrs)
    (put evm_name (evm_value key (evm_input evm attrs meta)) attrs) (without evm_name attrs)
    (put_named evm_name (evm_value key (evm_input evm attrs meta)) attrs refl h)
    (without_named evm_name attrs h)

-- the name of the HMAC is a word
renewed_named : (evm : Setup) (attrs : List Pair) (meta : Meta) → AreNamed attrs
    → AreNamed (renewed evm attrs meta)
renewed_named evm attrs meta h = under_named evm.key evm attrs meta h

changed_named : (name : List ℕ) (bytes : Option (List ℕ)) (attrs : List Pair) → IsClean name
    → AreNamed attrs → AreNamed (attr_changed name bytes attrs)
changed_named name None attrs n h = without_named name attrs h
changed_named name (Some bytes) attrs n h = put_named name bytes attrs n h

set_named : (i : Inode) (name : List ℕ) (bytes : Option (List ℕ)) (meta : Meta)
    (attrs : List Pair) → IsClean name → AreNamed attrs
    → AreNamed (attr_set i name bytes meta attrs)
set_named i name bytes meta attrs n h =
    let more = changed_named name bytes attrs n h in
    either_named (protects i.settings.evm name)
    (renewed i.settings.evm (attr_changed name bytes attrs) meta) (attr_changed name bytes attrs)
    (renewed_named i.settings.evm (attr_changed name bytes attrs) meta more) more

label_named : (i : Inode) (digest : Digest) (meta : Meta) (attrs : List Pair) → AreNamed attrs
    → AreNamed (labelled_with i digest meta attrs)
label_named i digest meta attrs h =
    renewed_named i.settings.evm (put ima_name (label_of digest) attrs) meta
    (put_named ima_name (label_of digest) attrs refl h)

fixed_named : (i : Inode) (b : Bool) (o : Option Digest) (meta : Meta) (attrs : List Pair)
    → AreNamed attrs → AreNamed (fixed_by i b o meta attrs)
fixed_named i true (Some digest) meta attrs h =
    either_named (is_old (evm_status i.settings.evm attrs meta))
    (renewed i.settings.evm attrs meta) (labelled_with i digest meta attrs)
    (renewed_named i.settings.evm attrs meta h) (label_named i digest meta attrs h)
fixed_named i true None meta attrs h = h
fixed_named i false o meta attrs h = h

labelled_named : (i : Inode) (o : Option Digest) (meta : Meta) (attrs : List Pair)
    → AreNamed attrs → AreNamed (labelled_by i o meta attrs)
labelled_named i (Some digest) meta attrs h = label_named i digest meta attrs h
labelled_named i None meta attrs h = h

-- an event leaves attributes whose names are words
after_named : (i : Inode) (p : List Event) (who : Who) (d : Deed) (t : Told) (old : Integrity)
    → Follows i p who d t → IsDeed d → AreNamed i.birth.attrs → AreNamed old.attributes
    → AreNamed (attributes_after i d t p old)
after_named i p who deed.Birth (told.Image image) old follows d birth h =
    let same : image ≡ i.birth = cc (follows.2) in
    subst (λ (x : Image). AreNamed x.attrs) (sym same) birth
after_named i p who (deed.SetAttr name bytes admin) told.Done old follows d birth h =
    set_named i name bytes (metadata p) old.attributes d h
after_named i p who (deed.SetMeta change) told.Done old follows d birth h =
    renewed_named i.settings.evm old.attributes (changed change (metadata p)) h
after_named i p who (deed.Take file) (told.Grant grant) old follows d birth h =
    fixed_named i grant.labelled (option_map (λ f. f.digest) old.digests) (metadata p)
    old.attributes h
after_named i p who (deed.Finish file) (told.Grant grant) old follows d birth h =
    fixed_named i grant.labelled (option_map digest_from old.collecting) (metadata p)
    old.attributes h
after_named i p who (deed.CloseFinish file) told.LabelledDropped old follows d birth h =
    labelled_named i (option_map digest_from old.collecting) (metadata p) old.attributes h
after_named i p who d t old follows k birth h = h

-- the attributes after the events of a legal journal
pub attributes_named : (i : Inode) (p : List Event) → AreNamed i.birth.attrs → EachFollows i p
    → AllByRecursion (λ (e : Event). IsDeed e.deed) p → AreNamed (attributes i p)
attributes_named i [] birth follows deeds = tt
attributes_named i (e ∷ p) birth follows deeds =
    after_named i p e.who e.deed e.told (integrity i p) follows.0 deeds.0 birth
    (attributes_named i p birth follows.1 deeds.1)
