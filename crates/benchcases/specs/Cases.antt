-- The names of the cases.
use Rattle.std.specs.Prelude.{ℕ, List, codes, ◌++◌}
use Rattle.benchcases.specs.declared.case.Case.{Case}
use Rattle.benchcases.specs.declared.case.Case.TheVariants.{Sized, Chosen, Pieces as PiecesCase, Held, Used, PushPop, PushReserved, PushFull, FibPush, RetainWide, InsertFront, RemoveFront, SwapRemove, EqBytes, CmpBytes, ExtendFromSlice, Extend, ExtendUnhinted, ExtendThrice, Append, SplitJoin, DrainTaken, DrainDropped, DrainFront, DrainBack, IntoIter, SpliceGrowing, SpliceInPlace, SpliceFront, InsertMiddle, GapInsert, GapTyping}
use Rattle.benchcases.specs.declared.case.Call.{Call}
use Rattle.benchcases.specs.declared.case.Call.TheVariants.{Push, PushInPlace, InsertPop, RemovePush, Clone}
use Rattle.benchcases.specs.declared.case.Choice.{Choice}
use Rattle.benchcases.specs.declared.case.Choice.TheVariants.{RetainHalf, RetainMost, RetainRandom, RetainNone, ExtractHalf, Dedup, DedupByKey}
use Rattle.benchcases.specs.declared.case.Pieces.{Pieces}
use Rattle.benchcases.specs.declared.case.Pieces.TheVariants.{OfFour, OfTwenty, Mixed, Written}
use Rattle.benchcases.specs.declared.case.Collection.{Collection}
use Rattle.benchcases.specs.declared.case.Collection.TheVariants.{TableInsert, TableHit, TableMiss, TableRemove, TableReserved, TableIter, TableIterSparse, BoxTree, BoxTreeFind, MapInsert, MapGet, MapRemove, MapScan, HeapPush, HeapPop, RingQueue, RingPush, RingInPlace, InlineFew, InlineRows, SlotsInsert, SlotsInPlace, SlotsGet, SlotsChurn}
use Rattle.benchcases.specs.declared.case.Use.{Use}
use Rattle.benchcases.specs.declared.case.Use.TheVariants.{Serialise, Tokenize, Lines, Lru, Merge, DedupTexts, TextTable, InsertSorted, Grid, Boxes, Rows, Window}
use Rattle.benchcases.specs.declared.case.Size.{Size}
use Rattle.benchcases.specs.declared.case.Size.TheVariants.{Four, One, TwentyFour, Zero}

abbrev pub name_of_call : Call → List ℕ
name_of_call Push = codes "push"
name_of_call PushInPlace = codes "push_in_place"
name_of_call InsertPop = codes "insert_pop"
name_of_call RemovePush = codes "remove_push"
name_of_call Clone = codes "clone"

-- what follows the call in a name, by the size of the elements: nothing for 4 bytes
abbrev pub suffix_of : Size → List ℕ
suffix_of Four = codes ""
suffix_of One = codes "_u8"
suffix_of TwentyFour = codes "_24"
suffix_of Zero = codes "_zst"

abbrev pub name_of_choice : Choice → List ℕ
name_of_choice RetainHalf = codes "retain_half"
name_of_choice RetainMost = codes "retain_most"
name_of_choice RetainRandom = codes "retain_random"
name_of_choice RetainNone = codes "retain_none"
name_of_choice ExtractHalf = codes "extract_half"
name_of_choice Dedup = codes "dedup"
name_of_choice DedupByKey = codes "dedup_by_key"

abbrev pub name_of_pieces : Pieces → List ℕ
name_of_pieces OfFour = codes "pieces_of_4"
name_of_pieces OfTwenty = codes "pieces_of_20"
name_of_pieces Mixed = codes "pieces_mixed"
name_of_pieces Written = codes "write_pieces"

abbrev pub name_of_collection : Collection → List ℕ
name_of_collection TableInsert = codes "table_insert"
name_of_collection TableHit = codes "table_hit"
name_of_collection TableMiss = codes "table_miss"
name_of_collection TableRemove = codes "table_remove"
name_of_collection TableReserved = codes "table_reserved"
name_of_collection TableIter = codes "table_iter"
name_of_collection TableIterSparse = codes "table_iter_sparse"
name_of_collection BoxTree = codes "box_tree"
name_of_collection BoxTreeFind = codes "box_tree_find"
name_of_collection MapInsert = codes "map_insert"
name_of_collection MapGet = codes "map_get"
name_of_collection MapRemove = codes "map_remove"
name_of_collection MapScan = codes "map_scan"
name_of_collection HeapPush = codes "heap_push"
name_of_collection HeapPop = codes "heap_pop"
name_of_collection RingQueue = codes "ring_queue"
name_of_collection RingPush = codes "ring_push"
name_of_collection RingInPlace = codes "ring_in_place"
name_of_collection InlineFew = codes "inline_few"
name_of_collection InlineRows = codes "inline_rows"
name_of_collection SlotsInsert = codes "slots_insert"
name_of_collection SlotsInPlace = codes "slots_in_place"
name_of_collection SlotsGet = codes "slots_get"
name_of_collection SlotsChurn = codes "slots_churn"

abbrev pub name_of_use : Use → List ℕ
name_of_use Serialise = codes "serialise"
name_of_use Tokenize = codes "tokenize"
name_of_use Lines = codes "lines"
name_of_use Lru = codes "lru"
name_of_use Merge = codes "merge"
name_of_use DedupTexts = codes "dedup_texts"
name_of_use TextTable = codes "text_table"
name_of_use InsertSorted = codes "insert_sorted"
name_of_use Grid = codes "grid"
name_of_use Boxes = codes "boxes"
name_of_use Rows = codes "rows"
name_of_use Window = codes "window"

abbrev pub name_of : Case → List ℕ
name_of (Sized call size) = name_of_call call ++ suffix_of size
name_of (Chosen choice) = name_of_choice choice
name_of (PiecesCase pieces) = name_of_pieces pieces
name_of (Held collection) = name_of_collection collection
name_of (Used used) = name_of_use used
name_of PushPop = codes "push_pop"
name_of PushReserved = codes "push_reserved"
name_of PushFull = codes "push_full"
name_of FibPush = codes "fib_push"
name_of RetainWide = codes "retain_wide"
name_of InsertFront = codes "insert_front"
name_of RemoveFront = codes "remove_front"
name_of SwapRemove = codes "swap_remove"
name_of EqBytes = codes "eq_bytes"
name_of CmpBytes = codes "cmp_bytes"
name_of ExtendFromSlice = codes "extend_from_slice"
name_of Extend = codes "extend"
name_of ExtendUnhinted = codes "extend_unhinted"
name_of ExtendThrice = codes "extend_thrice"
name_of Append = codes "append"
name_of SplitJoin = codes "split_join"
name_of DrainTaken = codes "drain_taken"
name_of DrainDropped = codes "drain_dropped"
name_of DrainFront = codes "drain_front"
name_of DrainBack = codes "drain_back"
name_of IntoIter = codes "into_iter"
name_of SpliceGrowing = codes "splice_growing"
name_of SpliceInPlace = codes "splice_in_place"
name_of SpliceFront = codes "splice_front"
name_of InsertMiddle = codes "insert_middle"
name_of GapInsert = codes "gap_insert"
name_of GapTyping = codes "gap_typing"
