-- The files that are split and those that remain are all files.
use Rattle.std.proofs.Common.{◌≡◌, map, ◌++◌}
use Rattle.script_scene.specs.Scene.{file_of, fs_of}
use Rattle.script_scene.proofs.parts.split.Given as goal

abbrev pub invariant-loop-file : goal.invariant-loop-file
invariant-loop-file l = record {
  inodes : map file_of l.fn.files.items
      ≡ l.inodes.items ++ map file_of l.file-iterator.rest.items;
  places : map fs_of l.fn.files.items
      ≡ l.places.items ++ map fs_of l.file-iterator.rest.items;
}
