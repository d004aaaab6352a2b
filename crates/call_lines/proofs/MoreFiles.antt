-- The calls of a script are also calls of a script with more files.
use Rattle.std.proofs.Common.{◌≡◌, ℕ, ◌≤◌, true, nat_lt, arith}
use Rattle.std.proofs.lemmas.Bool.Decides.{nat_tests}
use Rattle.call_steps.specs.declared.call.Call.{Call}
use Rattle.call_lines.specs.Arguments.{Alone, Arguments, Forms, Rule, Said, Values, Way, Words, are_fit, is_fit, ◌▸◌}
use Rattle.call_lines.specs.Calls.{is_line_call}
use Rattle.call_lines.specs.Form.{Bytes, Descriptor, Form, Id, Mapping, Mode, Name, Offset, Path, Portion, Small, Value, form}
use Rattle.call_lines.specs.Table.{row, spoken}
use Rattle.call_lines.proofs.Holding.{both_true, left_true, right_true}

module _ (n m : ℕ) (le : n ≤ m) where
  -- an index below a number of files is below a greater number
  more_below : (i : ℕ) → nat_lt i n ≡ true → nat_lt i m ≡ true
  more_below i h = grind (arith, nat_tests)

  -- only a path depends on the number of files
  fits_more : (f : Form) (x : Value f) → (form f).fits n x ≡ true → (form f).fits m x ≡ true
  fits_more Descriptor x h = h
  fits_more Small x h = h
  fits_more Offset x h = h
  fits_more Portion x h = h
  fits_more Mode x h = h
  fits_more Id x h = h
  fits_more Mapping x h = h
  fits_more Name x h = h
  fits_more (Bytes least most) x h = h
  fits_more Path x h = more_below x h

  -- what words can say in a script with n files, they can say with more
  are_fit_more : (fs : Forms) (v : Values fs) → are_fit n fs v ≡ true → are_fit m fs v ≡ true
  are_fit_more Alone v h = h
  are_fit_more Way v h = h
  are_fit_more (f ▸ fs) v h =
      both_true ((form f).fits m v.0) (are_fit m fs v.1)
      (fits_more f v.0 (left_true ((form f).fits n v.0) (are_fit n fs v.1) h))
      (are_fit_more fs v.1 (right_true ((form f).fits n v.0) (are_fit n fs v.1) h))

  -- what arguments can say in a script with n files, they can say with more
  is_fit_more : (a : Arguments) (s : Said a) → is_fit n a s ≡ true → is_fit m a s ≡ true
  is_fit_more Rule s h = h
  is_fit_more (Words fs) s h = are_fit_more fs s h

  -- a call that a line can say in a script with n files, it can say with more
  pub line_call_more : (c : Call) → is_line_call n c ≡ true → is_line_call m c ≡ true
  line_call_more c h = is_fit_more (row (spoken c).word).arguments (spoken c).said h
