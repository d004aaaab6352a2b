use Rattle.std.proofs.Common.{refl}
use Rattle.worked_examples.proofs.label_examples.Goals as goal

pub returns : goal.returns
returns c = record {
  fits = refl;
  wrong = refl;
  no_xattrs = refl;
  no_label = refl;
  wrong_hmac = refl;
  old_hmac = refl;
  no_key = refl;
  allowed = refl;
  denied = refl;
  wrong_and_denied = refl;
  unsigned = refl;
  unsigned_and_wrong = refl;
  signed = refl;
  signed_no_label = refl;
  signed_wrong_hmac = refl;
  mended_wrong = refl;
  mended_unsealed = refl;
  mended_signature = refl;
  mended_unsealed_signature = refl;
  mended_denied = refl;
  mended_right = refl;
}
