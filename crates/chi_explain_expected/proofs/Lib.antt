mod LastOfClass
mod Fronts
mod Asked
mod Choices
