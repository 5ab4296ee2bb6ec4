-- What a ledger says after each call: its limit, the bytes that are allocated, and the most ever.
use Rattle.std.specs.Prelude.{ℕ, ◌+◌, ◌-◌, max}
use Rattle.aa_watched.specs.declared.ledger.Ledger.{Ledger}

-- the numbers of a ledger
pub record Account : Type 0 where
  pub limit : ℕ
  pub allocated : ℕ
  pub most : ℕ

-- the numbers of the ledger `l`
abbrev pub account_of : Ledger → Account
account_of l = record { limit = l.limit; allocated = l.allocated; most = l.most }

-- the account of `limit` bytes, of which none is allocated
abbrev pub new_account : ℕ → Account
new_account limit = record { limit = limit; allocated = 0; most = 0 }

-- the bytes of `a` that may still be allocated
abbrev pub remaining_of : Account → ℕ
remaining_of a = a.limit - a.allocated

-- the account `a` after `n` bytes are allocated
abbrev pub with_allocated : Account → ℕ → Account
with_allocated a n =
    record { limit = a.limit; allocated = a.allocated + n; most = max a.most (a.allocated + n) }

-- the account `a` after `n` bytes are deallocated
abbrev pub with_deallocated : Account → ℕ → Account
with_deallocated a n = record { limit = a.limit; allocated = a.allocated - n; most = a.most }
