-- Words of reports, each with what is read of it.
use Rattle.std.proofs.Common.{◌≡◌, codes, Some, None, refl}
use Rattle.report_words.specs.Forms.{who_of}

steps : (who_of (codes "0.12.3") ≡ Some (record { task = 0; call = 12; step = 3 }))
    × (who_of (codes "0.12") ≡ None)
steps = (refl, refl)
