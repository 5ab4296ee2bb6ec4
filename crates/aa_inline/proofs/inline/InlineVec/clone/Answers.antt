use Rattle.aa_inline.proofs.inline.InlineVec.clone.Goals as goal

pub returns-clause-fits : goal.returns-clause-fits
returns-clause-fits g c = rw c.as_slice.ensures at c.from_slice_in.ensures.fits

pub returns-clause-error : goal.returns-clause-error
returns-clause-error g c = rw (c.as_slice.ensures, c.allocator.ensures) at c.from_slice_in.ensures.error
