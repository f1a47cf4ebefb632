-- The file of an assembled program loads as the program.
use Rattle.std.proofs.Common.{◌≡◌, ◌≢◌, ℕ, ◌+◌, ◌*◌, ◌/◌, ◌%◌, ◌<◌, ◌≤◌, false, List, [], ◌∷◌, ◌++◌, length, take, drop, None, Ok, refl, ap, arith, length-append}
use Rattle.std.proofs.lemmas.List.{take_at, drop_at, take_all}
use Rattle.std.proofs.lemmas.Bool.Decides.{nat_tests}
use Rattle.rv_program.specs.Sections.{Sections, IsSized}
use Rattle.elf32.specs.declared.header.ProgramHeader.{ProgramHeader}
use Rattle.elf32.specs.Header.{half, word, header_from, program_headers, e_entry, e_phnum}
use Rattle.elf32.specs.Faults.{is_truncated, has_bad_magic, has_bad_class_or_data, has_bad_version, is_not_exec, is_not_riscv, has_bad_flags, has_bad_header_size, has_bad_count, has_bad_type, has_bad_range, is_out_of_order, shares_page, is_write_execute, has_bad_entry, least_fault, loads}
use Rattle.elf32.specs.Image.{image_of, layout_of}
use Rattle.elf32.specs.Written.{half_bytes, word_bytes, elf_header, program_header_bytes, file_of, program_layout, text_bytes, load_header}

-- a number below 2^32 from its four bytes
word_back : (n : ℕ) → n < 4294967296 → n % 256 + 256 * (n / 256 % 256) + 65536 * (n / 65536 % 256) + 16777216 * (n / 16777216 % 256) ≡ n
word_back n h = omega arith

-- the fields of a program header fit in four bytes
record Fitting (p : ProgramHeader) : Type 0 where
  type : p.p_type < 4294967296
  offset : p.p_offset < 4294967296
  vaddr : p.p_vaddr < 4294967296
  filesz : p.p_filesz < 4294967296
  memsz : p.p_memsz < 4294967296
  flags : p.p_flags < 4294967296

-- a program header is read back from its bytes
header_back : (p : ProgramHeader) (rest : List ℕ) → Fitting p → header_from (program_header_bytes p ++ rest) 0 ≡ p
unfolding header_from word program_header_bytes word_bytes
header_back p rest fit =
    rw (word_back p.p_type fit.type, word_back p.p_offset fit.offset, word_back p.p_vaddr fit.vaddr, word_back p.p_filesz fit.filesz, word_back p.p_memsz fit.memsz, word_back p.p_flags fit.flags) refl

-- one program header
one_header : (p : ProgramHeader) (rest : List ℕ) → Fitting p → program_headers (elf_header 1 ++ (program_header_bytes p ++ rest)) ≡ p ∷ []
unfolding program_headers header_from half word elf_header half_bytes word_bytes program_header_bytes
one_header p rest fit = ap (λ (x : ProgramHeader). x ∷ []) (header_back p rest fit)

-- two program headers
two_headers : (p q : ProgramHeader) (rest : List ℕ) → Fitting p → Fitting q → program_headers (elf_header 2 ++ (program_header_bytes p ++ (program_header_bytes q ++ rest))) ≡ p ∷ q ∷ []
unfolding program_headers header_from half word elf_header half_bytes word_bytes program_header_bytes
two_headers p q rest fit fit2 =
    rw (header_back p (program_header_bytes q ++ rest) fit, header_back q rest fit2) refl

-- ---- the ELF header

-- e_phnum is read back
count_back : (count : ℕ) (rest : List ℕ) → count ≤ 8 → e_phnum (elf_header count ++ rest) ≡ count
unfolding half elf_header half_bytes word_bytes
count_back count rest h = omega arith

-- fault 9 does not hold
no_bad_count : (count : ℕ) (rest : List ℕ) → 1 ≤ count → count ≤ 8 → has_bad_count (elf_header count ++ rest) ≡ false
unfolding has_bad_count
no_bad_count count rest some h = rw (count_back count rest h) (grind (arith, nat_tests))

-- the ELF header has 52 bytes
header_length : (count : ℕ) (rest : List ℕ) → length (elf_header count ++ rest) ≡ 52 + length rest
unfolding elf_header half_bytes word_bytes
header_length count rest = omega arith

-- e_phoff is 52
table_start : (count : ℕ) (rest : List ℕ) → word (elf_header count ++ rest) 28 ≡ 52
unfolding word elf_header half_bytes word_bytes
table_start count rest = refl

-- fault 1 does not hold if the program headers are there
not_truncated : (count : ℕ) (rest : List ℕ) → 1 ≤ count → count ≤ 8 → 32 * count ≤ length rest → is_truncated (elf_header count ++ rest) ≡ false
unfolding is_truncated
not_truncated count rest some h long =
    rw (header_length count rest, no_bad_count count rest some h, table_start count rest, count_back count rest h) (grind (arith, nat_tests))

-- faults 2 to 8 do not hold
record HeaderClear (bytes : List ℕ) : Type 0 where
  magic : has_bad_magic bytes ≡ false
  kind : has_bad_class_or_data bytes ≡ false
  version : has_bad_version bytes ≡ false
  exec : is_not_exec bytes ≡ false
  riscv : is_not_riscv bytes ≡ false
  flags : has_bad_flags bytes ≡ false
  sizes : has_bad_header_size bytes ≡ false

-- none of them holds of the ELF header
header_clear : (count : ℕ) (rest : List ℕ) → HeaderClear (elf_header count ++ rest)
unfolding has_bad_magic has_bad_class_or_data has_bad_version is_not_exec is_not_riscv has_bad_flags has_bad_header_size half word elf_header half_bytes word_bytes
header_clear count rest = record { magic = refl; kind = refl; version = refl; exec = refl; riscv = refl; flags = refl; sizes = refl }

-- ---- the segments

-- the fields of the program header of text fit
text_fits : (offset t : ℕ) → offset ≤ 116 → 4 * t ≤ 65536 → Fitting (load_header offset 65536 (4 * t) 5)
text_fits offset t small fit = record { type = omega arith; offset = omega arith; vaddr = omega arith; filesz = omega arith; memsz = omega arith; flags = omega arith }

-- the fields of the program header of data fit
data_fits : (t d : ℕ) → 4 * t ≤ 65536 → d ≤ 61440 → Fitting (load_header (116 + 4 * t) 131072 d 6)
data_fits t d fit small = record { type = omega arith; offset = omega arith; vaddr = omega arith; filesz = omega arith; memsz = omega arith; flags = omega arith }

-- faults 10 to 15 do not hold
record SegmentsClear (bytes : List ℕ) : Type 0 where
  type : has_bad_type bytes ≡ false
  range : has_bad_range bytes ≡ false
  order : is_out_of_order bytes ≡ false
  page : shares_page bytes ≡ false
  write_execute : is_write_execute bytes ≡ false
  entry : has_bad_entry bytes ≡ false

-- faults 10 to 15 do not hold of text alone
one_segment : (bytes : List ℕ) (t : ℕ) → program_headers bytes ≡ load_header 84 65536 (4 * t) 5 ∷ [] → e_entry bytes ≡ 65536 → 1 ≤ t → 4 * t ≤ 65536 → 84 + 4 * t ≤ length bytes → SegmentsClear bytes
unfolding loads has_bad_type has_bad_range is_out_of_order shares_page is_write_execute has_bad_entry
one_segment bytes t headers entry some fit long = record {
  type = rw headers refl;
  range = rw headers (grind (arith, nat_tests));
  order = rw headers refl;
  page = rw headers refl;
  write_execute = rw headers refl;
  entry = rw (headers, entry) (grind (arith, nat_tests));
}

-- nor of text and data
two_segments : (bytes : List ℕ) (t d : ℕ) → program_headers bytes ≡ load_header 116 65536 (4 * t) 5 ∷ load_header (116 + 4 * t) 131072 d 6 ∷ [] → e_entry bytes ≡ 65536 → 1 ≤ t → 4 * t ≤ 65536 → 1 ≤ d → d ≤ 61440 → 116 + 4 * t + d ≤ length bytes → SegmentsClear bytes
unfolding loads has_bad_type has_bad_range is_out_of_order shares_page is_write_execute has_bad_entry
two_segments bytes t d headers entry some fit more small long = record {
  type = rw headers refl;
  range = rw headers (grind (arith, nat_tests));
  order = rw headers (grind (arith, nat_tests));
  page = rw headers (grind (arith, nat_tests));
  write_execute = rw headers refl;
  entry = rw (headers, entry) (grind (arith, nat_tests));
}

-- ---- the whole file

-- no fault holds if each test is false
none_holds : (bytes : List ℕ) → is_truncated bytes ≡ false → has_bad_count bytes ≡ false → HeaderClear bytes → SegmentsClear bytes → least_fault bytes ≡ None
unfolding least_fault
none_holds bytes long count h s =
    rw (long, h.magic, h.kind, h.version, h.exec, h.riscv, h.flags, h.sizes, count, s.type, s.range, s.order, s.page, s.write_execute, s.entry) refl

-- a file without fault stands for its layout
loads_as : (bytes : List ℕ) → least_fault bytes ≡ None → image_of bytes ≡ Ok (layout_of bytes)
unfolding image_of
loads_as bytes none = rw none refl

-- text has four bytes a word
text_length : (text : List ℕ) → length (text_bytes text) ≡ 4 * length text
unfolding text_bytes word_bytes
text_length [] = refl
text_length (w ∷ text) = let rest = text_length text in omega arith

-- the entry is the first text word
entry_back : (count : ℕ) (rest : List ℕ) → e_entry (elf_header count ++ rest) ≡ 65536
unfolding word elf_header half_bytes word_bytes
entry_back count rest = refl

-- the file of a program without data, with its parts associated to the right
abbrev one_file : List ℕ → List ℕ
one_file text = elf_header 1 ++ (program_header_bytes (load_header 84 65536 (4 * length text) 5) ++ (text_bytes text ++ []))

-- the file of a program with data, with its parts associated to the right
abbrev two_file : List ℕ → List ℕ → List ℕ
two_file text bytes =
    elf_header 2 ++ (program_header_bytes (load_header 116 65536 (4 * length text) 5) ++ (program_header_bytes (load_header (116 + 4 * length text) 131072 (length bytes) 6) ++ (text_bytes text ++ bytes)))

-- the file of a program without data
file_one : (text : List ℕ) → file_of (record { text = text; data_bytes = [] }) ≡ one_file text
unfolding file_of elf_header program_header_bytes half_bytes word_bytes text_bytes
file_one text = refl

-- the file of a program with data
file_two : (text : List ℕ) (b : ℕ) (bytes : List ℕ) → file_of (record { text = text; data_bytes = b ∷ bytes }) ≡ two_file text (b ∷ bytes)
unfolding file_of elf_header program_header_bytes half_bytes word_bytes text_bytes
file_two text b bytes = refl

-- a program header has 32 bytes
table_length : (p : ProgramHeader) (rest : List ℕ) → length (program_header_bytes p ++ rest) ≡ 32 + length rest
unfolding program_header_bytes word_bytes
table_length p rest = omega arith

-- the bytes of text, if there are no data
one_text : (text : List ℕ) → take (4 * length text) (drop 84 (one_file text)) ≡ text_bytes text
unfolding elf_header program_header_bytes half_bytes word_bytes
one_text text = take_at (text_bytes text) [] (4 * length text) (text_length text)

-- the bytes of text, if there are data
two_text : (text bytes : List ℕ) → take (4 * length text) (drop 116 (two_file text bytes)) ≡ text_bytes text
unfolding elf_header program_header_bytes half_bytes word_bytes
two_text text bytes = take_at (text_bytes text) bytes (4 * length text) (text_length text)

-- the bytes before the data
two_before : List ℕ → List ℕ → List ℕ
two_before text bytes =
    elf_header 2 ++ (program_header_bytes (load_header 116 65536 (4 * length text) 5) ++ (program_header_bytes (load_header (116 + 4 * length text) 131072 (length bytes) 6) ++ text_bytes text))

-- the number of bytes before the data
two_before_length : (text bytes : List ℕ) → length (two_before text bytes) ≡ 116 + 4 * length text
unfolding two_before elf_header program_header_bytes half_bytes word_bytes
two_before_length text bytes = let h = text_length text in omega arith

-- the file ends with the data
two_parts : (text bytes : List ℕ) → two_file text bytes ≡ two_before text bytes ++ bytes
unfolding two_before elf_header program_header_bytes half_bytes word_bytes
two_parts text bytes = refl

-- the bytes of data
two_bytes : (text bytes : List ℕ) → take (length bytes) (drop (116 + 4 * length text) (two_file text bytes)) ≡ bytes
two_bytes text bytes =
    rw (two_parts text bytes, drop_at (two_before text bytes) bytes (116 + 4 * length text) (two_before_length text bytes)) (take_all (length bytes) bytes (omega arith))

-- a program without data loads
one_loads : (text : List ℕ) → 1 ≤ length text → 4 * length text ≤ 65536 → image_of (one_file text) ≡ Ok (program_layout (record { text = text; data_bytes = [] }))
unfolding loads
one_loads text some fit =
    let p = load_header 84 65536 (4 * length text) 5 in
    let rest = text_bytes text ++ [] in
    let headers = one_header p rest (text_fits 84 (length text) (omega arith) fit) in
    let after = table_length p rest in
    let long = header_length 1 (program_header_bytes p ++ rest) in
    let size = length-append (text_bytes text) [] in
    let words = text_length text in
    let entry = entry_back 1 (program_header_bytes p ++ rest) in
    let none = none_holds (one_file text)
    (not_truncated 1 (program_header_bytes p ++ rest) (omega arith) (omega arith) (omega arith))
    (no_bad_count 1 (program_header_bytes p ++ rest) (omega arith) (omega arith))
    (header_clear 1 (program_header_bytes p ++ rest))
    (one_segment (one_file text) (length text) headers entry some fit (omega arith)) in
    rw (loads_as (one_file text) none, headers, entry, one_text text) refl

-- a program with data loads
two_loads : (text : List ℕ) (b : ℕ) (bytes : List ℕ) → 1 ≤ length text → 4 * length text ≤ 65536 → length (b ∷ bytes) ≤ 61440 → image_of (two_file text (b ∷ bytes)) ≡ Ok (program_layout (record { text = text; data_bytes = b ∷ bytes }))
unfolding loads
two_loads text b bytes some fit small =
    let n = length (b ∷ bytes) in
    let p = load_header 116 65536 (4 * length text) 5 in
    let q = load_header (116 + 4 * length text) 131072 n 6 in
    let tail = text_bytes text ++ (b ∷ bytes) in
    let rest = program_header_bytes q ++ tail in
    let headers = two_headers p q tail (text_fits 116 (length text) (omega arith) fit) (data_fits (length text) n fit small) in
    let after = table_length p rest in
    let more = table_length q tail in
    let long = header_length 2 (program_header_bytes p ++ rest) in
    let size = length-append (text_bytes text) (b ∷ bytes) in
    let words = text_length text in
    let entry = entry_back 2 (program_header_bytes p ++ rest) in
    let none = none_holds (two_file text (b ∷ bytes))
    (not_truncated 2 (program_header_bytes p ++ rest) (omega arith) (omega arith) (omega arith))
    (no_bad_count 2 (program_header_bytes p ++ rest) (omega arith) (omega arith))
    (header_clear 2 (program_header_bytes p ++ rest))
    (two_segments (two_file text (b ∷ bytes)) (length text) n headers entry some fit (omega arith) small (omega arith)) in
    rw (loads_as (two_file text (b ∷ bytes)) none, headers, entry, two_text text (b ∷ bytes), two_bytes text (b ∷ bytes)) refl

-- text that is not empty has a word
some_words : (text : List ℕ) → text ≢ [] → 1 ≤ length text
some_words [] h = absurd (h refl)
some_words (w ∷ text) h = omega arith

-- the file loads, by cases: without data and with data
loads_by : (text bytes : List ℕ) → IsSized (record { text = text; data_bytes = bytes }) → text ≢ [] → image_of (file_of (record { text = text; data_bytes = bytes })) ≡ Ok (program_layout (record { text = text; data_bytes = bytes }))
loads_by text [] sized some = rw (file_one text) (one_loads text (some_words text some) sized.text)
loads_by text (b ∷ bytes) sized some = rw (file_two text b bytes) (two_loads text b bytes (some_words text some) sized.text sized.data_bytes)

-- the file of an assembled program with text words loads as the program
pub file_loads : (p : Sections) → IsSized p → p.text ≢ [] → image_of (file_of p) ≡ Ok (program_layout p)
file_loads p sized some = loads_by p.text p.data_bytes sized some
