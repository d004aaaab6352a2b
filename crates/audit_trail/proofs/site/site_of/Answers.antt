use Rattle.std.proofs.Common.{◌<◌, length, sym, arith}
use Rattle.script_scene.specs.Scene.{fs_of, script_file_of}
use Rattle.audit_trail.proofs.Passing.{site_there}
use Rattle.audit_trail.proofs.Placed.{mapped_past, placed_at}
use Rattle.audit_trail.specs.declared.site.Site.{Site}
use Rattle.audit_trail.proofs.site.site_of.Goals as goal

pub unreachable-requires : goal.unreachable-requires
unreachable-requires c =
    let below : fs_of c.in-Some.file.now < length c.args.context.now.supers.now =
    placed_at fs_of (length c.args.context.now.supers.now) c.args.context.now.files.now c.requires
    c.args.number c.in-Some.file.now c.in-Some.ensures.lookup.3.0 c.in-Some.ensures.lookup.1 in
    omega (arith, below, c.in_default-get.ensures.lookup.3)

pub returns-in_default-clause-file : goal.returns-in_default-clause-file
returns-in_default-clause-file c =
    sym (mapped_past (script_file_of c.args.context.now.supers.now) c.args.context.now.files.now
    c.args.number c.in_default.ensures.lookup.3)

pub returns-clause-file : goal.returns-clause-file
returns-clause-file c =
    let s : Site =
    record { number = c.args.number; file = c.in-Some.file; system = c.in-Some-get.system } in
    sym (site_there c.args.context.now s c.args.number c.in-Some.ensures.lookup.3.0
    c.in-Some.ensures.lookup.1 c.in-Some-get.ensures.lookup.3.0 c.in-Some-get.ensures.lookup.1)
