-- The faults of a file, in the order of their numbers; 9 comes first, since 1 uses it. Sums are of whole numbers and don't
-- wrap.
use Rattle.std.specs.Prelude.{ℕ, ◌+◌, ◌-◌, ◌*◌, ◌/◌, ◌%◌, ◌==◌, Bool, false, not, ◌&&◌, ◌||◌, nat_lt, nat_le, List, [], ◌∷◌, length, take, slice_index, bytes_eq, filter, Option, Some, None, if◌then◌else◌}
use Rattle.std.specs.List.{list_any}
use Rattle.elf32.specs.declared.error.ElfError.{ElfError}
use Rattle.elf32.specs.declared.error.ElfError.TheVariants.{Truncated, BadMagic, BadClassOrData, BadVersion, NotExec, NotRiscv, BadFlags, BadHeaderSize, BadCount, BadType, SegmentRange, SegmentOrder, PageShared, WriteExecute, BadEntry}
use Rattle.elf32.specs.declared.header.ProgramHeader.{ProgramHeader}
use Rattle.elf32.specs.Extent.{first_address, input_address, page_size}
use Rattle.elf32.specs.Header.{e_type, e_machine, e_version, e_entry, e_phoff, e_flags, e_ehsize, e_phentsize, e_phnum, program_headers}

-- p_type: PT_NULL is 0, PT_LOAD is 1
abbrev pub is_null : ProgramHeader → Bool
is_null p = p.p_type == 0

abbrev pub is_load : ProgramHeader → Bool
is_load p = p.p_type == 1

-- p_flags: bit 0 is PF_X, bit 1 is PF_W, bit 2 is PF_R
abbrev pub has_execute : ProgramHeader → Bool
has_execute p = p.p_flags % 2 == 1

abbrev pub has_write : ProgramHeader → Bool
has_write p = p.p_flags / 2 % 2 == 1

abbrev pub has_read : ProgramHeader → Bool
has_read p = p.p_flags / 4 % 2 == 1

-- the PT_LOADs, in the order of the file
unfoldable pub loads : List ℕ → List ProgramHeader
loads bytes = filter is_load (program_headers bytes)

-- the relation holds between a member of the list and a later one
abbrev pub some_pair : (ProgramHeader → ProgramHeader → Bool) → List ProgramHeader → Bool
some_pair related [] = false
some_pair related (p ∷ later) = list_any (related p) later || some_pair related later

-- 9: e_phnum is not 1 to 8
unfoldable pub has_bad_count : List ℕ → Bool
has_bad_count bytes = e_phnum bytes == 0 || nat_lt 8 (e_phnum bytes)

-- 1: fewer than 52 bytes, or e_phnum is 1 to 8 and the table passes the end
unfoldable pub is_truncated : List ℕ → Bool
is_truncated bytes =
    nat_lt (length bytes) 52 || (not (has_bad_count bytes) && nat_lt (length bytes) (e_phoff bytes + 32 * e_phnum bytes))

-- 2: bytes 0 to 3 are not 7f 45 4c 46
unfoldable pub has_bad_magic : List ℕ → Bool
has_bad_magic bytes = not (bytes_eq (take 4 bytes) (0x7f ∷ 0x45 ∷ 0x4c ∷ 0x46 ∷ []))

-- 3: byte 4 or 5 is not 1 (ELFCLASS32, ELFDATA2LSB)
unfoldable pub has_bad_class_or_data : List ℕ → Bool
has_bad_class_or_data bytes = not (slice_index bytes 4 == 1 && slice_index bytes 5 == 1)

-- 4: byte 6 or e_version is not 1 (EV_CURRENT)
unfoldable pub has_bad_version : List ℕ → Bool
has_bad_version bytes = not (slice_index bytes 6 == 1 && e_version bytes == 1)

-- 5: e_type is not 2 (ET_EXEC)
unfoldable pub is_not_exec : List ℕ → Bool
is_not_exec bytes = not (e_type bytes == 2)

-- 6: e_machine is not 243 (EM_RISCV)
unfoldable pub is_not_riscv : List ℕ → Bool
is_not_riscv bytes = not (e_machine bytes == 243)

-- 7: e_flags is not 0
unfoldable pub has_bad_flags : List ℕ → Bool
has_bad_flags bytes = not (e_flags bytes == 0)

-- 8: e_ehsize is not 52 or e_phentsize not 32
unfoldable pub has_bad_header_size : List ℕ → Bool
has_bad_header_size bytes = not (e_ehsize bytes == 52 && e_phentsize bytes == 32)

-- 10: an entry is neither PT_LOAD nor PT_NULL
unfoldable pub has_bad_type : List ℕ → Bool
has_bad_type bytes = list_any (λ p. not (is_load p || is_null p)) (program_headers bytes)

-- 11: p_filesz is above p_memsz, the file bytes pass the end of the file, p_vaddr is below the first address, or
-- the segment's end is above the input's address
abbrev pub is_out_of_range : ℕ → ProgramHeader → Bool
is_out_of_range len p =
    nat_lt p.p_memsz p.p_filesz || nat_lt len (p.p_offset + p.p_filesz) || nat_lt p.p_vaddr first_address || nat_lt input_address (p.p_vaddr + p.p_memsz)

unfoldable pub has_bad_range : List ℕ → Bool
has_bad_range bytes = list_any (is_out_of_range (length bytes)) (loads bytes)

-- 12: a PT_LOAD has a p_vaddr below that of a PT_LOAD before it
abbrev pub is_below : ProgramHeader → ProgramHeader → Bool
is_below before later = nat_lt later.p_vaddr before.p_vaddr

unfoldable pub is_out_of_order : List ℕ → Bool
is_out_of_order bytes = some_pair is_below (loads bytes)

-- the pages of the first and the last address of a PT_LOAD that has addresses
abbrev pub first_page : ProgramHeader → ℕ
first_page p = p.p_vaddr / page_size

abbrev pub last_page : ProgramHeader → ℕ
last_page p = (p.p_vaddr + p.p_memsz - 1) / page_size

-- 13: two PT_LOADs have addresses in one page; one with p_memsz 0 has no addresses
abbrev pub share_a_page : ProgramHeader → ProgramHeader → Bool
share_a_page p q =
    nat_lt 0 p.p_memsz && nat_lt 0 q.p_memsz && nat_le (first_page p) (last_page q) && nat_le (first_page q) (last_page p)

unfoldable pub shares_page : List ℕ → Bool
shares_page bytes = some_pair share_a_page (loads bytes)

-- 14: a PT_LOAD has PF_W and PF_X
unfoldable pub is_write_execute : List ℕ → Bool
is_write_execute bytes = list_any (λ p. has_write p && has_execute p) (loads bytes)

-- 15: e_entry is not a multiple of 4, or is in no PT_LOAD with PF_X
abbrev pub may_execute_at : ℕ → ProgramHeader → Bool
may_execute_at address p =
    has_execute p && nat_le p.p_vaddr address && nat_lt address (p.p_vaddr + p.p_memsz)

unfoldable pub has_bad_entry : List ℕ → Bool
has_bad_entry bytes =
    not (e_entry bytes % 4 == 0) || not (list_any (may_execute_at (e_entry bytes)) (loads bytes))

-- the least-numbered fault from 10 on
abbrev pub segment_fault : List ℕ → Option ElfError
segment_fault bytes =
    if has_bad_type bytes then Some BadType
    else if has_bad_range bytes then Some SegmentRange
    else if is_out_of_order bytes then Some SegmentOrder
    else if shares_page bytes then Some PageShared
    else if is_write_execute bytes then Some WriteExecute
    else if has_bad_entry bytes then Some BadEntry
    else None

-- the least-numbered fault that holds
unfoldable pub least_fault : List ℕ → Option ElfError
least_fault bytes =
    if is_truncated bytes then Some Truncated
    else if has_bad_magic bytes then Some BadMagic
    else if has_bad_class_or_data bytes then Some BadClassOrData
    else if has_bad_version bytes then Some BadVersion
    else if is_not_exec bytes then Some NotExec
    else if is_not_riscv bytes then Some NotRiscv
    else if has_bad_flags bytes then Some BadFlags
    else if has_bad_header_size bytes then Some BadHeaderSize
    else if has_bad_count bytes then Some BadCount
    else segment_fault bytes
