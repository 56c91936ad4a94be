pub mod Spots
pub mod CellAdds
