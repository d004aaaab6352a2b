-- Placeholder constants, of a world without inodes and tasks.
use Rattle.std.specs.Prelude.{[], None, refl}
use Rattle.grow_list.specs.Shown.{no_name}
use Rattle.inode_events.specs.hashes.declared.algo.Algo.TheVariants.{Sha1}
use Rattle.inode_meta.specs.declared.appraisal.Mode.TheVariants.{Log}
use Rattle.inode_meta.specs.declared.measurement.Template.TheVariants.{Ima}
use Rattle.inode_events.specs.declared.settings.Settings.{Settings}
use Rattle.world_close.specs.worlds.WorldConsts.{WorldConsts, no_entry}

abbrev pub no_settings : Settings
no_settings = record {
  hash = Sha1;
  template = Ima;
  mode = Log;
  evm = record { key = None; added = []; format = 0 };
  for_files = refl;
}

abbrev pub no_consts : WorldConsts
no_consts = record {
  settings = no_settings;
  boot = no_entry;
  each_inode = [];
  supers = [];
  base = [];
  book = no_name;
  signals = no_name;
  rules = no_name;
  tasks = 0;
}
