-- The entries for measurements and violations are valid.
use Rattle.std.proofs.Common.{◌≡◌, ◌≢◌, ℕ, ◌<◌, ◌≤◌, Bool, true, false, nat_le, cond, List, length, refl, ap, sym, subst, arith}
use Rattle.std.specs.List.{All}
use Rattle.std.proofs.lemmas.Bool.Decides.{nat_tests}
use Rattle.std.proofs.lemmas.List.Elements.{All-drop}
use Rattle.hash_algos.specs.declared.algo.Algo.{Algo}
use Rattle.hash_algos.specs.declared.algo.Algo.TheVariants.{Sha1}
use Rattle.hash_algos.specs.declared.digest.Digest.{Digest}
use Rattle.hash_algos.specs.Digest.{HasDigestSize, zero_digest}
use Rattle.inode_meta.specs.declared.measurement.Template.{Template}
use Rattle.inode_meta.specs.declared.measurement.Template.TheVariants.{Ima, ImaNg, ImaSig, ImaBuf}
use Rattle.xattr_store.specs.Attrs.{most_value}
use Rattle.ima_templates.specs.Entries.{entry_of, violation_of}
use Rattle.ima_templates.specs.IsEntry.{IsEntry}
use Rattle.ima_templates.specs.Path.{IsGraphic, IsMeasuredPath, last_component}
use Rattle.ima_templates.specs.Shown.{shown_digest, shown_name, shown_sig}

-- what an entry needs of its name
record IsName (t : Template) (name : List ℕ) : Type 0 where
  not_empty : 1 ≤ length name
  at_most : length name ≤ 1024
  graphic : All IsGraphic name
  of_ima : t ≡ Ima → length name ≤ 255

-- `ima` shows the last component of a long path
name_by : (short : Bool) (path : List ℕ) → nat_le (length path) 255 ≡ short
    → IsMeasuredPath Ima path → IsName Ima (cond short path (last_component path))
name_by true path is p = record {
  not_empty = p.not_empty;
  at_most = p.at_most;
  graphic = p.graphic;
  of_ima = λ e. grind (arith, nat_tests);
}
name_by false path is p =
    let component = p.component refl in record {
      not_empty = component.0;
      at_most = omega (arith, component.1);
      graphic = All-drop IsGraphic _ path p.graphic;
      of_ima = λ e. component.1;
    }

-- each template shows a name that an entry can have
name_of : (t : Template) (path : List ℕ) → IsMeasuredPath t path → IsName t (shown_name t path)
name_of Ima path p = name_by (nat_le (length path) 255) path refl p
name_of ImaNg path p = record {
  not_empty = p.not_empty;
  at_most = p.at_most;
  graphic = p.graphic;
  of_ima = λ e. absurd (cc);
}
name_of ImaSig path p = record {
  not_empty = p.not_empty;
  at_most = p.at_most;
  graphic = p.graphic;
  of_ima = λ e. absurd (cc);
}
name_of ImaBuf path p = record {
  not_empty = p.not_empty;
  at_most = p.at_most;
  graphic = p.graphic;
  of_ima = λ e. absurd (cc);
}

-- no template shows more than the signature
sig_at_most : (t : Template) (sig : List ℕ) → length sig ≤ most_value
    → length (shown_sig t sig) ≤ most_value
sig_at_most Ima sig fits = omega arith
sig_at_most ImaNg sig fits = omega arith
sig_at_most ImaSig sig fits = fits
sig_at_most ImaBuf sig fits = fits

-- the entry of a file or buffer is valid
pub entry_valid : (pcr : ℕ) (t : Template) (file sha1 : Digest) (path sig : List ℕ) → pcr < 24
    → sha1.algo ≡ Sha1 → IsMeasuredPath t path → length sig ≤ most_value
    → HasDigestSize (shown_digest t file sha1) → IsEntry (entry_of pcr t file sha1 path sig)
entry_valid pcr t file sha1 path sig register algo is fits size =
    let name = name_of t path is in record {
      pcr = register;
      digest_size = size;
      digest_of_ima = λ e. subst (λ u. (shown_digest u file sha1).algo ≡ Sha1) (sym e) algo;
      name_not_empty = name.not_empty;
      name_at_most = name.at_most;
      name_graphic = name.graphic;
      name_of_ima = name.of_ima;
      sig_at_most = sig_at_most t sig fits;
      sig_of_ima = ap (λ u. shown_sig u sig);
      sig_of_ima_ng = ap (λ u. shown_sig u sig);
      violation = λ e. absurd (cc);
    }

-- a violation shows a digest of zeros
zeros_shown : (t : Template) (a : Algo) → shown_digest t (zero_digest a) (zero_digest Sha1)
    ≡ zero_digest (shown_digest t (zero_digest a) (zero_digest Sha1)).algo
zeros_shown Ima a = refl
zeros_shown ImaNg a = refl
zeros_shown ImaSig a = refl
zeros_shown ImaBuf a = refl

-- a violation is valid
pub violation_valid : (t : Template) (default : Algo) (path : List ℕ) → t ≢ ImaBuf
    → IsMeasuredPath t path → HasDigestSize (shown_digest t (zero_digest default) (zero_digest Sha1))
    → IsEntry (violation_of t default path)
violation_valid t default path other is size =
    let name = name_of t path is in record {
      pcr = omega arith;
      digest_size = size;
      digest_of_ima = λ e. subst
          (λ u. (shown_digest u (zero_digest default) (zero_digest Sha1)).algo ≡ Sha1) (sym e) refl;
      name_not_empty = name.not_empty;
      name_at_most = name.at_most;
      name_graphic = name.graphic;
      name_of_ima = name.of_ima;
      sig_at_most = omega arith;
      sig_of_ima = λ e. refl;
      sig_of_ima_ng = λ e. refl;
      violation = λ e. record {
        pcr = refl;
        digest = zeros_shown t default;
        sig = refl;
        template = other;
      };
    }
