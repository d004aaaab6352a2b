-- A valid path of a list text is one that an entry may have.
use Rattle.std.proofs.Common.{◌≡◌, ℕ, List, true}
use Rattle.inode_meta.specs.declared.measurement.Template.TheVariants.{ImaNg}
use Rattle.text_forms.specs.Paths.{is_path}
use Rattle.ima_templates.specs.Path.{IsMeasuredPath}
use Rattle.script_run.proofs.about_scenes.Paths as scripts

-- the template `ima-ng` can show each valid path
pub measured_path : (path : List ℕ) → is_path path ≡ true → IsMeasuredPath ImaNg path
measured_path path h =
    let m = scripts.measured_path path h in record {
      not_empty = m.not_empty;
      at_most = m.at_most;
      graphic = m.graphic;
      component = λ e. absurd (cc e);
    }
