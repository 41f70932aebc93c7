-- Hash chains of the calendar over the roots that a core holds.
use Rattle.std.specs.Prelude.{ℕ, nat_le, List, Option, Some, None, if◌then◌else◌}
use Rattle.ksi_calendar.specs.Covered.{Roots, covered_path, covered_root, first_missing}
use Rattle.ksi_corenode.specs.declared.chaining.HeldChain.{HeldChain}

-- None if a second from the start to p is not held; else the links from second t to the root of the calendar to p
abbrev pub chain_over : (List ℕ → List ℕ) → Roots → (start t p : ℕ) → (missing : Option ℕ) → Option HeldChain
chain_over image held start t p (Some missing) = None
chain_over image held start t p None = Some (record { links = covered_path image held start t p; root = covered_root image held start p })

-- the same, and None if t is after p
unfoldable pub held_chain : (List ℕ → List ℕ) → Roots → (start t p : ℕ) → Option HeldChain
held_chain image held start t p = if nat_le t p then chain_over image held start t p (first_missing held start p) else None
