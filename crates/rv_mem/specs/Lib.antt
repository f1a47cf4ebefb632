pub mod Space
pub mod Start
pub mod PagedSpace
pub mod Paged
pub mod Code
