-- The printed keys of a rule are read back as the same keys: a lemma for each key, and an induction
-- over the table.
use Rattle.std.proofs.Common.{◌≡◌, ℕ, ◌^◌, Bool, true, false, not, ◌||◌, ◌&&◌, List, [], ◌∷◌, ◌++◌, codes, Option, Some, None, is_none, is_some, Ok, nat_le, nat_lt, refl, sym, ap, ◌∙◌, inl, inr, arith}
use Rattle.std.specs.Fmt.{decimal}
use Rattle.std.specs.List.{list_all}
use Rattle.std.proofs.lemmas.Bool.{and_parts, cases_Bool, leb-true, ltb-true, false≢true}
use Rattle.hash_algos.specs.declared.algo_set.AlgoSet.{AlgoSet}
use Rattle.inode_meta.specs.Words.{template_word}
use Rattle.inode_meta.specs.declared.appraisal.Need.{Need}
use Rattle.inode_meta.specs.declared.appraisal.Need.TheVariants as need
use Rattle.inode_meta.specs.declared.measurement.Template.{Template}
use Rattle.inode_meta.specs.declared.measurement.Template.TheVariants as template
use Rattle.text_forms.specs.FileSystems.{magic_text, uuid_text}
use Rattle.text_forms.specs.Words.{is_word}
use Rattle.text_forms.proofs.FileSystems.{magic_again, uuid_again}
use Rattle.policy_rules.specs.declared.key.Key.{Key}
use Rattle.policy_rules.specs.declared.key.Key.TheVariants as key
use Rattle.policy_rules.specs.declared.rule.Func.{Func}
use Rattle.policy_rules.specs.declared.rule.IdTest.{IdTest}
use Rattle.policy_rules.specs.declared.rule.MaskTest.{MaskTest}
use Rattle.policy_text.specs.Grammar.{plain_rule, with_token, with_tokens}
use Rattle.policy_rules.specs.Key.{keys, row, told}
use Rattle.policy_rules.specs.RuleValue.{RuleValue, IsRule, if_there, is_mask_bit, is_id, is_any, is_appraise, is_measure, has_algos, is_named_template}
use Rattle.policy_text.specs.Spelling.{is_visible_word, key_word, key_words}
use Rattle.policy_rules.specs.ValueTexts.{algos_text, func_word, id_text, mask_text}
use Rattle.policy_text.proofs.AlgosAgain.{algos_again}
use Rattle.policy_text.proofs.ValuesAgain.{func_again, id_again, mask_again, number_again, sign_again}

-- the rule s, with the key's part of the rule r
abbrev pub put : Key → RuleValue → RuleValue → RuleValue
put key.Func r s = record s { func = r.func }
put key.Mask r s = record s { mask = r.mask }
put key.FsMagic r s = record s { fsmagic = r.fsmagic }
put key.FsUuid r s = record s { fsuuid = r.fsuuid }
put key.FsName r s = record s { fsname = r.fsname }
put key.Uid r s = record s { uid = r.uid }
put key.Euid r s = record s { euid = r.euid }
put key.Gid r s = record s { gid = r.gid }
put key.Egid r s = record s { egid = r.egid }
put key.Fowner r s = record s { fowner = r.fowner }
put key.Fgroup r s = record s { fgroup = r.fgroup }
put key.AppraiseType r s = record s { need = r.need }
put key.AppraiseFlag r s = record s { blacklist = r.blacklist }
put key.AppraiseAlgos r s = record s { algos = r.algos }
put key.Directio r s = record s { directio = r.directio }
put key.Pcr r s = record s { pcr = r.pcr }
put key.Template r s = record s { template = r.template }

-- the word is visible, and parsing it turns the rule s into t
abbrev Reads : List ℕ → RuleValue → RuleValue → Type 0
Reads word s t = (is_visible_word word ≡ true) × (with_token s word ≡ Ok t)

-- a key that the rule has belongs to its action
none_or : {A : Type 0} (o : Option A) (b : Bool) → is_some o ≡ true → (is_none o || b) ≡ true → b
    ≡ true
none_or None b h k = absurd (false≢true h)
none_or (Some x) b h k = k

not_or : (a b : Bool) → not a ≡ true → (a || b) ≡ true → b ≡ true
not_or true b h k = absurd (false≢true h)
not_or false b h k = k

so_or : (a b : Bool) → a ≡ true → (not a || b) ≡ true → b ≡ true
so_or true b h k = k
so_or false b h k = absurd (false≢true h)

module _ (s : RuleValue) where
  func_read : (o : Option Func) → is_some s.func ≡ false → is_some o ≡ true
      → Reads (codes "func=" ++ told func_word o) s (record s { func = o })
  func_read None e h = absurd (false≢true h)
  func_read (Some x) e h = ((func_again x).0, rw (e, (func_again x).1) refl)

  mask_read : (o : Option MaskTest) → is_some s.mask ≡ false → is_some o ≡ true
      → if_there (λ m. is_mask_bit m.bits) o ≡ true
      → Reads (codes "mask=" ++ told mask_text o) s (record s { mask = o })
  mask_read None e h k = absurd (false≢true h)
  mask_read (Some x) e h k = ((mask_again x k).0, rw (e, (mask_again x k).1) refl)

  magic_read : (o : Option ℕ) → is_some s.fsmagic ≡ false → is_some o ≡ true
      → if_there (λ n. nat_le n 0xffff_ffff_ffff_ffff) o ≡ true
      → Reads (codes "fsmagic=" ++ told magic_text o) s (record s { fsmagic = o })
  magic_read None e h k = absurd (false≢true h)
  magic_read (Some x) e h k =
      ((magic_again x (leb-true _ _ k)).0, rw (e, (magic_again x (leb-true _ _ k)).1) refl)

  uuid_read : (o : Option ℕ) → is_some s.fsuuid ≡ false → is_some o ≡ true
      → if_there (λ n. nat_lt n (2 ^ 128)) o ≡ true
      → Reads (codes "fsuuid=" ++ told uuid_text o) s (record s { fsuuid = o })
  uuid_read None e h k = absurd (false≢true h)
  uuid_read (Some x) e h k =
      ((uuid_again x (ltb-true _ _ k)).0, rw (e, (uuid_again x (ltb-true _ _ k)).1) refl)

  name_read : (o : Option (List ℕ)) → is_some s.fsname ≡ false → is_some o ≡ true
      → if_there (is_word 255) o ≡ true
      → Reads (codes "fsname=" ++ told (λ n. n) o) s (record s { fsname = o })
  name_read None e h k = absurd (false≢true h)
  name_read (Some x) e h k = ((and_parts _ _ k).1, rw (e, k) refl)

  -- the words of an id key turn the rule into those with its tests
  abbrev IdRead : Key → (Option IdTest → RuleValue) → Type 0
  IdRead k set = (o : Option IdTest) → (row k).is_in s ≡ false → is_some o ≡ true
      → if_there is_id o ≡ true → Reads ((row k).name ++ told id_text o) s (set o)

  -- a key that the rule has has a test
  test_read : (k : Key) (set : Option IdTest → RuleValue) → ((t : IdTest)
      → (row k).is_in s ≡ false → is_id t ≡ true
      → Reads ((row k).name ++ id_text t) s (set (Some t))) → IdRead k set
  test_read k set read None e h v = absurd (false≢true h)
  test_read k set read (Some t) e h v = read t e v

  uid_read : IdRead key.Uid (λ o. record s { uid = o })
  uid_read = test_read key.Uid (λ o. record s { uid = o })
      (λ t e v. ((id_again t v).0, rw (sign_again t, e, (id_again t v).1) refl))

  euid_read : IdRead key.Euid (λ o. record s { euid = o })
  euid_read = test_read key.Euid (λ o. record s { euid = o })
      (λ t e v. ((id_again t v).0, rw (sign_again t, e, (id_again t v).1) refl))

  gid_read : IdRead key.Gid (λ o. record s { gid = o })
  gid_read = test_read key.Gid (λ o. record s { gid = o })
      (λ t e v. ((id_again t v).0, rw (sign_again t, e, (id_again t v).1) refl))

  egid_read : IdRead key.Egid (λ o. record s { egid = o })
  egid_read = test_read key.Egid (λ o. record s { egid = o })
      (λ t e v. ((id_again t v).0, rw (sign_again t, e, (id_again t v).1) refl))

  fowner_read : IdRead key.Fowner (λ o. record s { fowner = o })
  fowner_read = test_read key.Fowner (λ o. record s { fowner = o })
      (λ t e v. ((id_again t v).0, rw (sign_again t, e, (id_again t v).1) refl))

  fgroup_read : IdRead key.Fgroup (λ o. record s { fgroup = o })
  fgroup_read = test_read key.Fgroup (λ o. record s { fgroup = o })
      (λ t e v. ((id_again t v).0, rw (sign_again t, e, (id_again t v).1) refl))

  type_read : (n : Need) → not (is_any s.need) ≡ false → not (is_any n) ≡ true → is_appraise s.act
      ≡ true → Reads (codes "appraise_type=imasig") s (record s { need = n })
  type_read need.Any e h a = absurd (false≢true h)
  type_read need.Signature e h a = (refl, rw (a, e) refl)

  flag_read : (f : Bool) → s.blacklist ≡ false → f ≡ true → is_appraise s.act ≡ true
      → Reads (codes "appraise_flag=check_blacklist") s (record s { blacklist = f })
  flag_read false e h a = absurd (false≢true h)
  flag_read true e h a = (refl, rw (a, e) refl)

  algos_read : (o : Option AlgoSet) → is_some s.algos ≡ false → is_some o ≡ true → is_appraise s.act
      ≡ true → if_there has_algos o ≡ true
      → Reads (codes "appraise_algos=" ++ told algos_text o) s (record s { algos = o })
  algos_read None e h a k = absurd (false≢true h)
  algos_read (Some x) e h a k = ((algos_again x k).0, rw (a, e, (algos_again x k).1) refl)

  directio_read : (f : Bool) → s.directio ≡ false → f ≡ true
      → Reads (codes "permit_directio" ++ []) s (record s { directio = f })
  directio_read false e h = absurd (false≢true h)
  directio_read true e h = (refl, rw e refl)

  pcr_read : (o : Option ℕ) → is_some s.pcr ≡ false → is_some o ≡ true → is_measure s.act ≡ true
      → if_there (λ n. nat_lt n 24) o ≡ true
      → Reads (codes "pcr=" ++ told decimal o) s (record s { pcr = o })
  pcr_read None e h a k = absurd (false≢true h)
  pcr_read (Some n) e h a k = let again = number_again 23 n (omega (arith, ltb-true n 24 k))
      (omega arith) in (again.0, rw (a, e, again.1) refl)

  template_read : (o : Option Template) → is_some s.template ≡ false → is_some o ≡ true
      → is_measure s.act ≡ true → if_there is_named_template o ≡ true
      → Reads (codes "template=" ++ told template_word o) s (record s { template = o })
  template_read None e h a k = absurd (false≢true h)
  template_read (Some template.Ima) e h a k = (refl, rw (a, e) refl)
  template_read (Some template.ImaNg) e h a k = (refl, rw (a, e) refl)
  template_read (Some template.ImaSig) e h a k = (refl, rw (a, e) refl)
  template_read (Some template.ImaBuf) e h a k = absurd (false≢true k)

-- the printed word of a key that the rule r has is parsed
word_read : (k : Key) (r s : RuleValue) → IsRule r → s.act ≡ r.act → (row k).is_in s ≡ false
    → (row k).is_in r ≡ true → Reads (key_word k r) s (put k r s)
word_read key.Func r s ok act e h = func_read s r.func e h
word_read key.Mask r s ok act e h = mask_read s r.mask e h ok.mask
word_read key.FsMagic r s ok act e h = magic_read s r.fsmagic e h ok.fsmagic
word_read key.FsUuid r s ok act e h = uuid_read s r.fsuuid e h ok.fsuuid
word_read key.FsName r s ok act e h = name_read s r.fsname e h ok.fsname
word_read key.Uid r s ok act e h = uid_read s r.uid e h ok.uid
word_read key.Euid r s ok act e h = euid_read s r.euid e h ok.euid
word_read key.Gid r s ok act e h = gid_read s r.gid e h ok.gid
word_read key.Egid r s ok act e h = egid_read s r.egid e h ok.egid
word_read key.Fowner r s ok act e h = fowner_read s r.fowner e h ok.fowner
word_read key.Fgroup r s ok act e h = fgroup_read s r.fgroup e h ok.fgroup
word_read key.AppraiseType r s ok act e h =
    type_read s r.need e h (ap is_appraise act
    ∙ not_or (is_any r.need) (is_appraise r.act) h ok.need)
word_read key.AppraiseFlag r s ok act e h =
    flag_read s r.blacklist e h (ap is_appraise act
    ∙ so_or r.blacklist (is_appraise r.act) h ok.blacklist)
word_read key.AppraiseAlgos r s ok act e h =
    algos_read s r.algos e h (ap is_appraise act
    ∙ none_or r.algos (is_appraise r.act) h ok.appraise_algos) ok.algos
word_read key.Directio r s ok act e h = directio_read s r.directio e h
word_read key.Pcr r s ok act e h =
    pcr_read s r.pcr e h (ap is_measure act ∙ none_or r.pcr (is_measure r.act) h ok.measure_pcr)
    ok.pcr
word_read key.Template r s ok act e h =
    template_read s r.template e h (ap is_measure act
    ∙ none_or r.template (is_measure r.act) h ok.measure_template) ok.template

-- two fields that are both absent are equal
none_is : {A : Type 0} (o p : Option A) → is_some o ≡ false → is_some p ≡ false → o ≡ p
none_is None None e h = refl
none_is None (Some y) e h = absurd (false≢true (sym h))
none_is (Some x) p e h = absurd (false≢true (sym e))

any_is : (m n : Need) → not (is_any m) ≡ false → not (is_any n) ≡ false → m ≡ n
any_is need.Any need.Any e h = refl
any_is need.Any need.Signature e h = absurd (false≢true (sym h))
any_is need.Signature n e h = absurd (false≢true (sym e))

-- putting a key that neither rule has changes nothing
put_none : (k : Key) (r s : RuleValue) → (row k).is_in s ≡ false → (row k).is_in r ≡ false
    → put k r s ≡ s
put_none key.Func r s e h =
    ap (λ (o : Option Func). record s { func = o }) (none_is r.func s.func h e)
put_none key.Mask r s e h = ap (λ (o : Option MaskTest). record s { mask = o })
    (none_is r.mask s.mask h e)
put_none key.FsMagic r s e h =
    ap (λ (o : Option ℕ). record s { fsmagic = o }) (none_is r.fsmagic s.fsmagic h e)
put_none key.FsUuid r s e h =
    ap (λ (o : Option ℕ). record s { fsuuid = o }) (none_is r.fsuuid s.fsuuid h e)
put_none key.FsName r s e h = ap (λ (o : Option (List ℕ)). record s { fsname = o })
    (none_is r.fsname s.fsname h e)
put_none key.Uid r s e h = ap (λ (o : Option IdTest). record s { uid = o })
    (none_is r.uid s.uid h e)
put_none key.Euid r s e h = ap (λ (o : Option IdTest). record s { euid = o })
    (none_is r.euid s.euid h e)
put_none key.Gid r s e h = ap (λ (o : Option IdTest). record s { gid = o })
    (none_is r.gid s.gid h e)
put_none key.Egid r s e h = ap (λ (o : Option IdTest). record s { egid = o })
    (none_is r.egid s.egid h e)
put_none key.Fowner r s e h = ap (λ (o : Option IdTest). record s { fowner = o })
    (none_is r.fowner s.fowner h e)
put_none key.Fgroup r s e h = ap (λ (o : Option IdTest). record s { fgroup = o })
    (none_is r.fgroup s.fgroup h e)
put_none key.AppraiseType r s e h =
    ap (λ (n : Need). record s { need = n }) (any_is r.need s.need h e)
put_none key.AppraiseFlag r s e h = ap (λ (f : Bool). record s { blacklist = f }) (h ∙ sym e)
put_none key.AppraiseAlgos r s e h = ap (λ (o : Option AlgoSet). record s { algos = o })
    (none_is r.algos s.algos h e)
put_none key.Directio r s e h = ap (λ (f : Bool). record s { directio = f }) (h ∙ sym e)
put_none key.Pcr r s e h = ap (λ (o : Option ℕ). record s { pcr = o }) (none_is r.pcr s.pcr h e)
put_none key.Template r s e h = ap (λ (o : Option Template). record s { template = o })
    (none_is r.template s.template h e)

put_act : (k : Key) (r s : RuleValue) → (put k r s).act ≡ s.act
put_act key.Func r s = refl
put_act key.Mask r s = refl
put_act key.FsMagic r s = refl
put_act key.FsUuid r s = refl
put_act key.FsName r s = refl
put_act key.Uid r s = refl
put_act key.Euid r s = refl
put_act key.Gid r s = refl
put_act key.Egid r s = refl
put_act key.Fowner r s = refl
put_act key.Fgroup r s = refl
put_act key.AppraiseType r s = refl
put_act key.AppraiseFlag r s = refl
put_act key.AppraiseAlgos r s = refl
put_act key.Directio r s = refl
put_act key.Pcr r s = refl
put_act key.Template r s = refl

-- ---- the induction over the table

-- the rule s, with the parts of the rule r for these keys
abbrev fill : List Key → RuleValue → RuleValue → RuleValue
fill [] r s = s
fill (k ∷ ks) r s = fill ks r (put k r s)

-- the rule doesn't have a key yet when that key's turn comes
abbrev is_fresh : List Key → RuleValue → RuleValue → Bool
is_fresh [] r s = true
is_fresh (k ∷ ks) r s = not ((row k).is_in s) && is_fresh ks r (put k r s)

not_true : (b : Bool) → not b ≡ true → b ≡ false
not_true true h = absurd (false≢true h)
not_true false h = refl

abbrev Again : List Key → RuleValue → RuleValue → Type 0
Again ks r s = (list_all is_visible_word (key_words ks r) ≡ true)
    × (with_tokens s (key_words ks r) ≡ Ok (fill ks r s))

keys_read : (ks : List Key) (r s : RuleValue) → IsRule r → s.act ≡ r.act → is_fresh ks r s ≡ true
    → Again ks r s
keys_read [] r s ok act fresh = (refl, refl)
keys_read (k ∷ ks) r s ok act fresh =
    let missing = not_true ((row k).is_in s) (and_parts _ _ fresh).0 in
    let others = keys_read ks r (put k r s) ok (put_act k r s ∙ act) (and_parts _ _ fresh).1 in
    elim (cases_Bool ((row k).is_in r)) [
      | inl has ↦ let read = word_read k r s ok act missing has
          in rw has (rw read.0 others.0, rw read.1 others.1)
      | inr hasnt ↦ rw hasnt (
        others.0,
        ap (λ (t : RuleValue). with_tokens t (key_words ks r))
            (sym (put_none k r s missing hasnt)) ∙ others.1,
      )
    ]

-- the printed keys of a rule, parsed onto its action, give the rule
pub keys_again : (r : RuleValue) → IsRule r → (list_all is_visible_word (key_words keys r) ≡ true)
    × (with_tokens (plain_rule r.act) (key_words keys r) ≡ Ok r)
keys_again r ok = keys_read keys r (plain_rule r.act) ok refl refl
