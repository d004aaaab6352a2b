-- The only outcome of the next event, as a function of the journal before it.
use Rattle.std.specs.Prelude.{ℕ, ◌+◌, ◌==◌, Bool, true, false, ◌&&◌, ◌||◌, not, nat_lt, nat_le, List, [], ◌∷◌, length, Option, Some, None, is_none, Result, Ok, Err, if◌then◌else◌}
use Rattle.std.specs.Str.{bytes_eq}
use Rattle.evm_verify.specs.Changes.{may_change, may_set_meta}
use Rattle.evm_verify.specs.Input.{evm_name}
use Rattle.hash_algos.specs.Digest.{digest_of}
use Rattle.hash_algos.specs.declared.algo.Algo.TheVariants.{Sha256}
use Rattle.ima_templates.specs.declared.entry.Placed.{Placed}
use Rattle.ima_templates.specs.declared.entry.Placed.TheVariants.{Added, Already}
use Rattle.inode_meta.specs.declared.appraisal.EvmStatus.{EvmStatus}
use Rattle.ima_templates.specs.xattrs.Attrs.{most_value, value}
use Rattle.inode_pages.specs.Content.{bytes_at, is_last_piece, most_bytes}
use Rattle.inode_events.specs.Files.{creates, execs, is_exec, is_writer, is_writing, readers, writers}
use Rattle.inode_events.specs.Grants.{grant_of}
use Rattle.inode_events.specs.Inode.{Inode}
use Rattle.inode_events.specs.Integrity.{Collection, Digests, attributes, collecting, digest_from, in_force, ima_name}
use Rattle.inode_events.specs.Marks.{is_label_due, must_measure}
use Rattle.inode_events.specs.State.{content, metadata, new, present}
use Rattle.inode_events.specs.declared.deed.Deed.{Deed}
use Rattle.inode_events.specs.declared.deed.Deed.TheVariants as deed
use Rattle.inode_events.specs.declared.deed.How.{How}
use Rattle.inode_events.specs.declared.told.Event.{Event}
use Rattle.inode_events.specs.declared.told.Told.{Told}
use Rattle.inode_events.specs.declared.told.Told.TheVariants as told

-- ---- the reply of the measurement list, which the journal can't determine: `placed`

abbrev pub place_of : Placed → ℕ
place_of (Added place) = place
place_of (Already place) = place

-- the list's reply that the outcome reports; arbitrary if it reports none
abbrev pub placed_in_grant : Option Placed → Placed
placed_in_grant None = Added 0
placed_in_grant (Some placed) = placed

abbrev pub placed_in : Told → Placed
placed_in (told.OpenWriters place) = Added place
placed_in (told.ToMToU place) = Added place
placed_in (told.Grant grant) = placed_in_grant grant.placed
placed_in _ = Added 0

-- ---- the outcomes, deed by deed

-- an open counts its file, unless the file is absent, or would be open for writing and executed at
-- the same time
abbrev pub count_told : How → Bool → ℕ → ℕ → Told
count_told how present writers execs =
    if not present && not (creates how) then told.NotFound
    else if (is_writer how && nat_lt 0 execs) || (is_exec how && nat_lt 0 writers)
    then told.TextBusy
    else told.Held

-- a writer that opens a measured file while there are readers gives a ToMToU violation, whatever
-- the rules say about the writer itself; a reader to be measured that opens a file while there are
-- writers gives an open-writers violation
abbrev pub check_told : Bool → Bool → ℕ → ℕ → Bool → ℕ → Told
check_told writing measure readers writers must place =
    if writing then (if nat_lt 0 readers && must then told.ToMToU place else told.Quiet)
    else (if measure && nat_lt 0 writers then told.OpenWriters place else told.Quiet)

-- a grant if a digest is in force; otherwise a collection begins
abbrev pub take_told : Inode → ℕ → Placed → Option Digests → List Event → Told
take_told inode file placed None before = told.Begun
take_told inode file placed (Some digests) before =
    told.Grant (grant_of inode file placed digests.digest before)

abbrev pub chunk_told : List ℕ → Option Collection → Option Told
chunk_told content None = None
chunk_told content (Some c) = Some (if is_last_piece content c.pieces then told.Last else told.More)

abbrev pub finish_told : Inode → ℕ → Placed → Option Collection → List Event → Option Told
finish_told inode file placed None before = None
finish_told inode file placed (Some c) before =
    Some (told.Grant (grant_of inode file placed (digest_from c) before))

abbrev pub read_told : List ℕ → Told
read_told bytes = told.Read (length bytes) (digest_of Sha256 bytes)

-- a file has a maximum size
abbrev pub write_told : ℕ → Told
write_told limit = if nat_le limit most_bytes then told.Done else told.TooBig

abbrev pub status_told : Result (Unit {0}) EvmStatus → Told
status_told (Ok _) = told.Done
status_told (Err status) = told.Status status

abbrev pub is_too_long : Option (List ℕ) → Bool
is_too_long None = false
is_too_long (Some bytes) = nat_lt most_value (length bytes)

-- the kernel refuses an empty value of `security.ima`, and one with an unknown type
abbrev pub is_no_label : Option (List ℕ) → Bool
is_no_label None = false
is_no_label (Some []) = true
is_no_label (Some (kind ∷ rest)) = nat_lt 6 kind

-- the first refusal that applies, or else done
abbrev pub set_attr_told : Inode → List ℕ → Option (List ℕ) → Bool → List Event → Told
set_attr_told inode name bytes admin before =
    if not (present before) then told.NotFound
    else if bytes_eq name evm_name then told.EvmName
    else if bytes_eq name ima_name && not admin then told.NotAdmin
    else if is_too_long bytes then told.TooLong
    else if bytes_eq name ima_name && is_no_label bytes then told.Invalid
    else if is_none bytes && is_none (value name (attributes inode before)) then told.NoData
    else status_told (may_change inode.settings.evm name (attributes inode before) (metadata before)
    (new before))

abbrev pub set_meta_told : Inode → List Event → Told
set_meta_told inode before =
    if not (present before) then told.NotFound
    else status_told (may_set_meta inode.settings.evm (attributes inode before) (metadata before))

-- the close of the last writer begins a collection if a label is due, and drops the file otherwise
abbrev pub close_take_told : Bool → ℕ → Told
close_take_told due writers = if (writers == 1) && due then told.Begun else told.Dropped

-- the label is written if its writer is still the only one
abbrev pub close_finish_told : ℕ → Told
close_finish_told writers = if writers == 1 then told.LabelledDropped else told.Dropped

-- the outcome if the integrity mutex is free; otherwise the task is blocked at this step
abbrev pub unless_collecting : Option Collection → Told → Option Told
unless_collecting None t = Some t
unless_collecting (Some c) t = None

-- ---- all deeds

-- The outcome of the next event. `placed` is the index in the list, and whether the entry is added
-- there or was there already, which the journal can't determine. `None` means that the step is
-- blocked: there is no event. A birth never follows another event, and the deeds of semaphores are
-- in no inode's journal.
abbrev pub says : Inode → List Event → Placed → Deed → Option Told
says inode before placed deed.Birth = None
says inode before placed (deed.Count how) =
    Some (count_told how (present before) (writers before) (execs before))
says inode before placed (deed.Check file func action rules) =
    Some (check_told (is_writing file before) action.measure (readers before) (writers before)
    (must_measure before) (place_of placed))
says inode before placed (deed.Take file) =
    unless_collecting (collecting inode before)
    (take_told inode file placed (in_force inode before) before)
says inode before placed (deed.Chunk file) = chunk_told (content before) (collecting inode before)
says inode before placed (deed.Finish file) =
    finish_told inode file placed (collecting inode before) before
says inode before placed (deed.Read file from len) =
    Some (read_told (bytes_at (content before) from len))
says inode before placed (deed.Write file from bytes) = Some (write_told (from + length bytes))
says inode before placed (deed.Trunc file len) = Some (write_told len)
says inode before placed (deed.SetAttr name bytes admin) =
    unless_collecting (collecting inode before) (set_attr_told inode name bytes admin before)
says inode before placed (deed.SetMeta change) =
    unless_collecting (collecting inode before) (set_meta_told inode before)
says inode before placed (deed.Close file) = Some told.Dropped
says inode before placed (deed.CloseTake file) =
    unless_collecting (collecting inode before)
    (close_take_told (is_label_due inode before) (writers before))
says inode before placed (deed.CloseChunk file) =
    chunk_told (content before) (collecting inode before)
says inode before placed (deed.CloseFinish file) = Some (close_finish_told (writers before))
says inode before placed (deed.Post sem) = None
says inode before placed (deed.Wait sem) = None
