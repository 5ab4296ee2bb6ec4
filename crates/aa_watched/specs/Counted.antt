-- What the counts are after each call.
use Rattle.std.specs.Prelude.{ℕ, ◌+◌, ◌-◌, ◌^◌, min, max, slice_set, slice_index_or}
use Rattle.aa_watched.specs.declared.counting.Counts.{Counts}

-- the count `c` and `n` more, or the greatest number of 64 bits
abbrev pub count_up : ℕ → ℕ → ℕ
count_up c n = min (c + n) (2 ^ 64 - 1)

-- the counts `c` after a request for `n` bytes, a size of the class `k`
abbrev pub requested : Counts → ℕ → ℕ → Counts
requested c n k = record {
  requests = count_up c.requests 1;
  granted = c.granted;
  frees = c.frees;
  bytes = c.bytes;
  outstanding = c.outstanding;
  most = c.most;
  greatest = max c.greatest n;
  by_size = slice_set c.by_size k (count_up (slice_index_or c.by_size k 0) 1);
}

-- the counts `c` after a block of `n` bytes is allocated
abbrev pub granted : Counts → ℕ → Counts
granted c n = record {
  requests = c.requests;
  granted = count_up c.granted 1;
  frees = c.frees;
  bytes = count_up c.bytes n;
  outstanding = count_up c.outstanding n;
  most = max c.most (count_up c.outstanding n);
  greatest = c.greatest;
  by_size = c.by_size;
}

-- the counts `c` after a block of `n` bytes is deallocated
abbrev pub freed : Counts → ℕ → Counts
freed c n = record {
  requests = c.requests;
  granted = c.granted;
  frees = count_up c.frees 1;
  bytes = c.bytes;
  outstanding = c.outstanding - n;
  most = c.most;
  greatest = c.greatest;
  by_size = c.by_size;
}
