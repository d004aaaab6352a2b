-- Examples of texts and of their lines, each with its value.
use Rattle.std.proofs.Common.{◌≡◌, true, false, [], ◌∷◌, ◌++◌, codes, Ok, Err, refl}
use Rattle.script_text.specs.events.meta.declared.identity.Cred.{Cred}
use Rattle.script_text.specs.steps.hashes.declared.algo.Algo.TheVariants.{Md5}
use Rattle.script_text.specs.script_lines.declared.fault.LineCause.TheVariants as cause
use Rattle.script_text.specs.script_lines.Read.{fault_at}
use Rattle.script_text.specs.Draft.{change_last}
use Rattle.buffer_text.specs.Draft.{Draft, no_buffers}
use Rattle.buffer_text.specs.Forms.{is_buffer, is_caller}
use Rattle.buffer_text.specs.Grammar.{add, buffers_of, placed, with_caller, with_cred, with_critical, with_hash, with_head, with_line, with_threads, with_version}
use Rattle.buffer_text.specs.Text.{CallerValue}

abbrev caller : Cred
caller = record { uid = 5; euid = 6; gid = 7; egid = 8; admin = false }

empty_text : (buffers_of (codes "imabuffers 1\n#\n\nthreads 1\n") ≡ Ok no_buffers)
    × (buffers_of (codes "imabuffers 1\nhash md5\nthreads 1\n")
    ≡ Ok (record no_buffers { hash = Md5 }))
unfolding add placed with_head with_version with_hash with_threads
empty_text = (refl, refl)

abbrev first_caller : CallerValue
first_caller = record {
  cred = record { uid = 0; euid = 1; gid = 2; egid = 3; admin = false };
  lines = [];
}

abbrev second_caller : CallerValue
second_caller = record { cred = caller; lines = [] }

callers_text : buffers_of (codes "imabuffers 1\ncaller uid=0 euid=1 gid=2 egid=3\n"
    ++ codes "caller uid=5 euid=6 gid=7 egid=8\nthreads 16\n")
    ≡ Ok (record no_buffers { callers = first_caller ∷ second_caller ∷ []; threads = 16 })
unfolding add placed with_head with_version with_caller with_cred with_threads
callers_text = refl

-- a draft with two callers
abbrev two_callers : Draft
two_callers = record {
  text = record no_buffers { callers = first_caller ∷ second_caller ∷ [] };
  at = 4;
  lines = 7;
  sum = 9;
}

-- a buffer is that of the last caller, and its bytes count
buffers : (with_critical (codes "k" ∷ codes "txt:abc" ∷ []) two_callers
    ≡ Ok (record {
      text = record no_buffers {
        callers = first_caller
            ∷ record second_caller { lines = (codes "k", codes "abc") ∷ [] } ∷ [];
      };
      at = 4;
      lines = 8;
      sum = 12;
    }))
    × (with_critical (codes "k" ∷ codes "txt:" ∷ []) (record two_callers { lines = 32768 })
    ≡ Err cause.TooMany)
    × (with_critical (codes "k" ∷ codes "txt:abc" ∷ []) (record two_callers { sum = 33554430 })
    ≡ Err cause.TooLarge)
    × (with_critical (codes "k" ∷ codes "txt:abc" ∷ codes "x" ∷ []) two_callers
    ≡ Err cause.BadField)
    × (with_critical (codes "k" ∷ []) two_callers ≡ Err cause.BadField)
    × (with_critical ([] ∷ codes "txt:" ∷ []) two_callers ≡ Err cause.BadField)
unfolding with_critical with_line change_last
buffers = (refl, refl, refl, refl, refl, refl)

refused : (buffers_of (codes "imakern 1\n") ≡ Err (fault_at 1 cause.BadWord))
    × (buffers_of (codes "imabuffers 2\n") ≡ Err (fault_at 1 cause.BadField))
    × (buffers_of (codes "threads 1\n") ≡ Err (fault_at 1 cause.OutOfPlace))
    × (buffers_of (codes "imabuffers 1\ncritical k txt:\n") ≡ Err (fault_at 2 cause.OutOfPlace))
    × (buffers_of (codes "imabuffers 1\nhash md5\nhash md5\n")
    ≡ Err (fault_at 3 cause.OutOfPlace))
    × (buffers_of (codes "imabuffers 1\nthreads 17\n") ≡ Err (fault_at 2 cause.BadField))
    × (buffers_of (codes "imabuffers 1\nthreads 0\n") ≡ Err (fault_at 2 cause.BadField))
    × (buffers_of (codes "imabuffers 1\nthreads 1\nthreads 1\n")
    ≡ Err (fault_at 3 cause.OutOfPlace))
    × (buffers_of (codes "imabuffers 1\nthreads 1") ≡ Err (fault_at 2 cause.NoEnd))
    × (buffers_of (codes "imabuffers 1\n") ≡ Err (fault_at 2 cause.NoEnd))
unfolding add placed with_head with_version with_hash with_threads
refused = (refl, refl, refl, refl, refl, refl, refl, refl, refl, refl)

-- a caller has four words, and a buffer a name and a value
refused_blocks : (buffers_of (codes "imabuffers 1\ncaller uid=0 euid=0 gid=0 egid=0 admin\n")
    ≡ Err (fault_at 2 cause.BadField))
    × (buffers_of (codes "imabuffers 1\ncaller uid=00 euid=0 gid=0 egid=0\n")
    ≡ Err (fault_at 2 cause.BadField))
    × (buffers_of (codes "imabuffers 1\ncaller uid=0 euid=0 gid=0 egid=0\ncritical k abc\n")
    ≡ Err (fault_at 3 cause.BadField))
    × (buffers_of (codes "imabuffers 1\ncaller uid=0 euid=0 gid=0 egid=0\nhash md5\n")
    ≡ Err (fault_at 3 cause.OutOfPlace))
unfolding add placed with_head with_version with_caller with_cred with_critical
refused_blocks = (refl, refl, refl, refl)

-- a buffer has a name, and no caller has the right of an administrator
forms : (is_buffer (codes "k", []) ≡ true) × (is_buffer ([], codes "abc") ≡ false)
    × (is_caller (record { cred = caller; lines = [] }) ≡ true)
    × (is_caller (record { cred = record caller { admin = true }; lines = [] }) ≡ false)
forms = (refl, refl, refl, refl)
