-- The keys of a rule: a row for each key, with its name, the actions that can have it, how its
-- value is parsed and printed, and its condition.
use Rattle.std.specs.Prelude.{ℕ, Bool, true, false, not, ◌==◌, ◌&&◌, ◌||◌, List, [], ◌∷◌, length, take, drop, codes, Option, Some, None, is_some, if◌then◌else◌}
use Rattle.std.specs.Fmt.{decimal}
use Rattle.std.specs.Option.{option_map}
use Rattle.std.specs.Str.{bytes_eq}
use Rattle.inode_meta.specs.Words.{template_word}
use Rattle.inode_meta.specs.declared.appraisal.Need.TheVariants as need
use Rattle.text_forms.specs.FileSystems.{magic_of, magic_text, uuid_of, uuid_text}
use Rattle.text_forms.specs.Numbers.{number_of}
use Rattle.text_forms.specs.Tokens.{is_filled}
use Rattle.policy_rules.specs.declared.access.Access.{Access}
use Rattle.policy_rules.specs.declared.key.Key.{Key}
use Rattle.policy_rules.specs.declared.key.Key.TheVariants as key
use Rattle.policy_rules.specs.declared.key.Shape.{Shape}
use Rattle.policy_rules.specs.declared.key.Shape.TheVariants as shape
use Rattle.policy_rules.specs.declared.rule.Act.{Act}
use Rattle.policy_rules.specs.declared.rule.IdTest.{IdTest}
use Rattle.policy_rules.specs.RuleValue.{RuleValue, if_there, is_any, is_appraise, is_measure}
use Rattle.policy_rules.specs.Tests.{id_holds, mask_holds, same_func}
use Rattle.policy_rules.specs.Values.{algos_of, func_of, id_of, is_sign, is_unsupported_template, is_unsupported_type, mask_of, name_of, template_of}
use Rattle.policy_rules.specs.ValueTexts.{algos_text, func_word, id_text, mask_text}

pub record Row : Type 0 where
  -- the beginning of its token
  pub name : List ℕ
  pub shape : Shape
  -- the actions whose rules can have it
  pub belongs : Act → Bool
  pub is_in : RuleValue → Bool
  -- the values that the kernel knows but that aren't supported here
  pub left_out : List ℕ → Bool
  -- the rule with this value, if the value has the form that the key requires
  pub read : List ℕ → RuleValue → Option RuleValue
  -- the printed value, for a rule that has the key
  pub spelled : RuleValue → List ℕ
  -- whether the access satisfies the rule's condition with this key
  pub holds : RuleValue → Access → Bool

abbrev pub any_act : Act → Bool
any_act act = true

-- the text of an optional value, empty if there is none
abbrev pub told : {A : Type 0} → (A → List ℕ) → Option A → List ℕ
told text_of None = []
told text_of (Some x) = text_of x

-- a key whose value is a field of the rule
abbrev pub field : {A : Type 0} → List ℕ → Shape → (RuleValue → Option A)
    → (A → RuleValue → RuleValue) → (List ℕ → Option A) → (A → List ℕ) → Row
field name shape get set value_of text_of = record {
  name = name;
  shape = shape;
  belongs = any_act;
  is_in = λ r. is_some (get r);
  left_out = λ value. false;
  read = λ value r. option_map (λ x. set x r) (value_of value);
  spelled = λ r. told text_of (get r);
  holds = λ r a. true;
}

-- a key whose value is a field of the rule and a condition on accesses
abbrev pub condition : {A : Type 0} → List ℕ → Shape → (RuleValue → Option A)
    → (A → RuleValue → RuleValue) → (List ℕ → Option A) → (A → List ℕ) → (A → Access → Bool) → Row
condition name shape get set value_of text_of test =
    record (field name shape get set value_of text_of)
    { holds = λ r a. if_there (λ x. test x a) (get r) }

-- a condition on a user or group ID, written as a sign and a number
abbrev pub id_condition : List ℕ → (RuleValue → Option IdTest) → (IdTest → RuleValue → RuleValue)
    → (Access → ℕ) → Row
id_condition name get set number = condition name shape.Signed get set id_of id_text
    (λ t a. id_holds t (number a))

-- a key with only one possible value
abbrev pub flag : List ℕ → Shape → List ℕ → (RuleValue → Bool) → (RuleValue → RuleValue) → Row
flag name shape only is_in set = record {
  name = name;
  shape = shape;
  belongs = any_act;
  is_in = is_in;
  left_out = λ value. false;
  read = λ value r. if bytes_eq value only then Some (set r) else None;
  spelled = λ r. only;
  holds = λ r a. true;
}

-- the table of the keys
abbrev pub row : Key → Row
row key.Func = condition (codes "func=") shape.Valued (λ r. r.func)
    (λ f r. record r { func = Some f }) func_of func_word (λ f a. same_func f a.func)
row key.Mask = condition (codes "mask=") shape.Valued (λ r. r.mask)
    (λ m r. record r { mask = Some m }) mask_of mask_text (λ m a. mask_holds m a.mask)
row key.FsMagic =
    condition (codes "fsmagic=") shape.Valued (λ r. r.fsmagic)
    (λ n r. record r { fsmagic = Some n }) magic_of magic_text
    (λ n a. n == a.place.now.magic)
row key.FsUuid =
    condition (codes "fsuuid=") shape.Valued (λ r. r.fsuuid) (λ n r. record r { fsuuid = Some n })
    uuid_of uuid_text
    (λ n a. n == a.place.now.uuid)
row key.FsName =
    condition (codes "fsname=") shape.Valued (λ r. r.fsname) (λ n r. record r { fsname = Some n })
    name_of (λ n. n)
    (λ n a. bytes_eq n a.place.now.name)
row key.Uid = id_condition (codes "uid") (λ r. r.uid) (λ t r. record r { uid = Some t })
    (λ a. a.cred.now.uid)
row key.Euid = id_condition (codes "euid") (λ r. r.euid) (λ t r. record r { euid = Some t })
    (λ a. a.cred.now.euid)
row key.Gid = id_condition (codes "gid") (λ r. r.gid) (λ t r. record r { gid = Some t })
    (λ a. a.cred.now.gid)
row key.Egid = id_condition (codes "egid") (λ r. r.egid) (λ t r. record r { egid = Some t })
    (λ a. a.cred.now.egid)
row key.Fowner = id_condition (codes "fowner") (λ r. r.fowner) (λ t r. record r { fowner = Some t })
    (λ a. a.owner)
row key.Fgroup = id_condition (codes "fgroup") (λ r. r.fgroup) (λ t r. record r { fgroup = Some t })
    (λ a. a.group)
row key.AppraiseType =
    record (flag (codes "appraise_type=") shape.Valued (codes "imasig") (λ r. not (is_any r.need))
    (λ r. record r { need = need.Signature })) {
      belongs = is_appraise;
      left_out = is_unsupported_type;
    }
row key.AppraiseFlag =
    record (flag (codes "appraise_flag=") shape.Valued (codes "check_blacklist") (λ r. r.blacklist)
    (λ r. record r { blacklist = true })) {
      belongs = is_appraise;
    }
row key.AppraiseAlgos =
    record (field (codes "appraise_algos=") shape.Valued (λ r. r.algos)
    (λ s r. record r { algos = Some s }) algos_of algos_text) { belongs = is_appraise }
row key.Directio = flag (codes "permit_directio") shape.Bare [] (λ r. r.directio)
    (λ r. record r { directio = true })
row key.Pcr =
    record (field (codes "pcr=") shape.Valued (λ r. r.pcr) (λ n r. record r { pcr = Some n })
    (number_of 10 23) decimal) { belongs = is_measure }
row key.Template =
    record (field (codes "template=") shape.Valued (λ r. r.template)
    (λ t r. record r { template = Some t }) template_of template_word) {
      belongs = is_measure;
      left_out = is_unsupported_template;
    }

-- the rule with the test of an id key
abbrev pub with_id : Key → IdTest → RuleValue → RuleValue
with_id key.Uid t r = record r { uid = Some t }
with_id key.Euid t r = record r { euid = Some t }
with_id key.Gid t r = record r { gid = Some t }
with_id key.Egid t r = record r { egid = Some t }
with_id key.Fowner t r = record r { fowner = Some t }
with_id key.Fgroup t r = record r { fgroup = Some t }
with_id _ t r = r

-- all keys, in the order in which they are printed
abbrev pub keys : List Key
keys =
    key.Func ∷ key.Mask ∷ key.FsMagic ∷ key.FsUuid ∷ key.FsName ∷ key.Uid ∷ key.Euid ∷ key.Gid
    ∷ key.Egid ∷ key.Fowner ∷ key.Fgroup
    ∷ key.AppraiseType ∷ key.AppraiseFlag ∷ key.AppraiseAlgos ∷ key.Directio ∷ key.Pcr
    ∷ key.Template ∷ []

abbrev pub starts : List ℕ → List ℕ → Bool
starts token name = bytes_eq (take (length name) token) name

-- whether the text after the name has this shape
abbrev pub fits : Shape → List ℕ → Bool
fits shape.Valued value = true
fits shape.Signed value = is_sign value
fits shape.Bare value = not (is_filled value)

-- the value of the key in its token; the sign of an id key belongs to the value
abbrev pub value_in : Key → List ℕ → Option (List ℕ)
value_in k token =
    if starts token (row k).name && fits (row k).shape (drop (length (row k).name) token)
    then Some (drop (length (row k).name) token) else None

abbrev pub or_else : Key → Option (List ℕ) → Option (Key × List ℕ) → Option (Key × List ℕ)
or_else k (Some value) other = Some (k, value)
or_else k None other = other

-- the first of these keys with which the token begins, and its value
abbrev pub key_among : List Key → List ℕ → Option (Key × List ℕ)
key_among [] token = None
key_among (k ∷ ks) token = or_else k (value_in k token) (key_among ks token)

abbrev pub key_of : List ℕ → Option (Key × List ℕ)
key_of token = key_among keys token

-- keys that ask a security module: `subj_` keys about the task, `obj_` keys about the inode
abbrev pub is_subject_key : List ℕ → Bool
is_subject_key token = starts token (codes "subj_user=") || starts token (codes "subj_role=")
    || starts token (codes "subj_type=")

abbrev pub is_object_key : List ℕ → Bool
is_object_key token = starts token (codes "obj_user=") || starts token (codes "obj_role=")
    || starts token (codes "obj_type=")

abbrev pub is_other_key : List ℕ → Bool
is_other_key token =
    starts token (codes "keyrings=") || starts token (codes "label=")
    || starts token (codes "digest_type=")
    || starts token (codes "fs_subtype=")

-- the keys that the kernel knows but that aren't supported here
abbrev pub is_unsupported_key : List ℕ → Bool
is_unsupported_key token = is_subject_key token || is_object_key token || is_other_key token
