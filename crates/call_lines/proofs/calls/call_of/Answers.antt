use Rattle.std.proofs.Common.{map, refl}
use Rattle.std.specs.Option.{option_copied}
use Rattle.call_lines.specs.declared.table.CallWord.TheVariants as word
use Rattle.call_lines.proofs.Dispatching.{at_rule, at_words}
use Rattle.call_lines.proofs.calls.call_of.Goals as goal

pub returns-in-Open : goal.returns-in-Open
returns-in-Open c =
    at_words c.open_of.result c.args.word word.Open (option_copied c.args.text)
    (map (λ w. w.now) c.args.words.now) c.args.paths.now c.in-Open.is refl c.open_of.ensures

pub returns-in-Read : goal.returns-in-Read
returns-in-Read c =
    at_words c.read_of.result c.args.word word.Read (option_copied c.args.text)
    (map (λ w. w.now) c.args.words.now) c.args.paths.now c.in-Read.is refl c.read_of.ensures

pub returns-in-Write : goal.returns-in-Write
returns-in-Write c =
    at_words c.write_of.result c.args.word word.Write (option_copied c.args.text)
    (map (λ w. w.now) c.args.words.now) c.args.paths.now c.in-Write.is refl c.write_of.ensures

pub returns-in-Ftruncate : goal.returns-in-Ftruncate
returns-in-Ftruncate c =
    at_words c.ftruncate_of.result c.args.word word.Ftruncate (option_copied c.args.text)
    (map (λ w. w.now) c.args.words.now) c.args.paths.now c.in-Ftruncate.is refl
    c.ftruncate_of.ensures

pub returns-in-Close : goal.returns-in-Close
returns-in-Close c =
    at_words c.close_of.result c.args.word word.Close (option_copied c.args.text)
    (map (λ w. w.now) c.args.words.now) c.args.paths.now c.in-Close.is refl c.close_of.ensures

pub returns-in-Mmap : goal.returns-in-Mmap
returns-in-Mmap c =
    at_words c.mmap_of.result c.args.word word.Mmap (option_copied c.args.text)
    (map (λ w. w.now) c.args.words.now) c.args.paths.now c.in-Mmap.is refl c.mmap_of.ensures

pub returns-in-Mread : goal.returns-in-Mread
returns-in-Mread c =
    at_words c.mread_of.result c.args.word word.Mread (option_copied c.args.text)
    (map (λ w. w.now) c.args.words.now) c.args.paths.now c.in-Mread.is refl c.mread_of.ensures

pub returns-in-Munmap : goal.returns-in-Munmap
returns-in-Munmap c =
    at_words c.munmap_of.result c.args.word word.Munmap (option_copied c.args.text)
    (map (λ w. w.now) c.args.words.now) c.args.paths.now c.in-Munmap.is refl c.munmap_of.ensures

pub returns-in-Exec : goal.returns-in-Exec
returns-in-Exec c =
    at_words c.exec_of.result c.args.word word.Exec (option_copied c.args.text)
    (map (λ w. w.now) c.args.words.now) c.args.paths.now c.in-Exec.is refl c.exec_of.ensures

pub returns-in-Endexec : goal.returns-in-Endexec
returns-in-Endexec c =
    at_words c.endexec_of.result c.args.word word.Endexec (option_copied c.args.text)
    (map (λ w. w.now) c.args.words.now) c.args.paths.now c.in-Endexec.is refl c.endexec_of.ensures

pub returns-in-SetAttr : goal.returns-in-SetAttr
returns-in-SetAttr c =
    at_words c.setxattr_of.result c.args.word word.SetAttr (option_copied c.args.text)
    (map (λ w. w.now) c.args.words.now) c.args.paths.now c.in-SetAttr.is refl c.setxattr_of.ensures

pub returns-in-RemoveAttr : goal.returns-in-RemoveAttr
returns-in-RemoveAttr c =
    at_words c.removexattr_of.result c.args.word word.RemoveAttr (option_copied c.args.text)
    (map (λ w. w.now) c.args.words.now) c.args.paths.now c.in-RemoveAttr.is refl
    c.removexattr_of.ensures

pub returns-in-Chmod : goal.returns-in-Chmod
returns-in-Chmod c =
    at_words c.chmod_of.result c.args.word word.Chmod (option_copied c.args.text)
    (map (λ w. w.now) c.args.words.now) c.args.paths.now c.in-Chmod.is refl c.chmod_of.ensures

pub returns-in-Chown : goal.returns-in-Chown
returns-in-Chown c =
    at_words c.chown_of.result c.args.word word.Chown (option_copied c.args.text)
    (map (λ w. w.now) c.args.words.now) c.args.paths.now c.in-Chown.is refl c.chown_of.ensures

pub returns-in-Post : goal.returns-in-Post
returns-in-Post c =
    at_words c.post_of.result c.args.word word.Post (option_copied c.args.text)
    (map (λ w. w.now) c.args.words.now) c.args.paths.now c.in-Post.is refl c.post_of.ensures

pub returns-in-Wait : goal.returns-in-Wait
returns-in-Wait c =
    at_words c.wait_of.result c.args.word word.Wait (option_copied c.args.text)
    (map (λ w. w.now) c.args.words.now) c.args.paths.now c.in-Wait.is refl c.wait_of.ensures

pub returns-in-Module : goal.returns-in-Module
returns-in-Module c =
    at_words c.module_of.result c.args.word word.Module (option_copied c.args.text)
    (map (λ w. w.now) c.args.words.now) c.args.paths.now c.in-Module.is refl c.module_of.ensures

pub returns-in-Firmware : goal.returns-in-Firmware
returns-in-Firmware c =
    at_words c.firmware_of.result c.args.word word.Firmware (option_copied c.args.text)
    (map (λ w. w.now) c.args.words.now) c.args.paths.now c.in-Firmware.is refl c.firmware_of.ensures

pub returns-in-AddRule : goal.returns-in-AddRule
returns-in-AddRule c =
    at_rule c.added_rule.result c.args.word (option_copied c.args.text)
    (map (λ w. w.now) c.args.words.now) c.args.paths.now c.in-AddRule.is c.added_rule.ensures
